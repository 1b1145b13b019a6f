use Rattle.std.proofs.Common.{ap, refl}
use Rattle.block_states.specs.States.{KeptBlocks}
use Rattle.nv_desk_state.proofs.kept.Kept.make.Goals as goal

pub returns : goal.returns
returns c = record {
  started = refl;
  off = refl;
  blocks = ap (λ (b : KeptBlocks). b.states) c.in_ok-make.ensures;
  jobs = c.in_ok-make-2.ensures.agrees;
  sweep = tt;
  member = tt;
  alone = tt;
  rooms = ap (λ (b : KeptBlocks). b.rooms) c.in_ok-make.ensures;
  places = c.in_ok-make-2.ensures.places;
}
