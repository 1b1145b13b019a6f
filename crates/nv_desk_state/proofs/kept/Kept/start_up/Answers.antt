use Rattle.std.proofs.Common.{refl, ap, ◌∙◌}
use Rattle.block_states.specs.States.{KeptBlocks}
use Rattle.nv_desk_state.proofs.kept.Kept.start_up.Goals as goal

pub returns : goal.returns
returns c s h = record {
  started = refl;
  off = refl;
  blocks = ap (λ (b : KeptBlocks). b.states) c.start_up.ensures;
  jobs = c.clear.ensures.agrees c.args.config.now s.waiting s.hand h.jobs;
  sweep = tt;
  member = tt;
  alone = tt;
  rooms = ap (λ (b : KeptBlocks). b.rooms) c.start_up.ensures ∙ h.rooms;
  places = c.clear.ensures.places ∙ h.places;
}
