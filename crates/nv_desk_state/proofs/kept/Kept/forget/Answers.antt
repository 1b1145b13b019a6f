use Rattle.std.proofs.Common.{refl, ap, ◌∙◌}
use Rattle.block_states.specs.States.{KeptBlocks}
use Rattle.nv_desk_state.proofs.kept.Kept.forget.Goals as goal

pub returns : goal.returns
returns c c' s h = record {
  started = refl;
  off = refl;
  blocks = ap (λ (b : KeptBlocks). b.states) c.forget.ensures;
  jobs = c.clear.ensures.agrees c' s.waiting s.hand h.jobs;
  sweep = tt;
  member = tt;
  alone = tt;
  rooms = ap (λ (b : KeptBlocks). b.rooms) c.forget.ensures ∙ h.rooms;
  places = c.clear.ensures.places ∙ h.places;
}
