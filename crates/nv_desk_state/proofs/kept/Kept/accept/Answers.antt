use Rattle.std.proofs.Common.{refl, ap, ◌∙◌}
use Rattle.block_states.specs.States.{KeptBlocks}
use Rattle.nv_desk_state.proofs.kept.Kept.accept.Goals as goal

pub returns : goal.returns
returns c s h new taken none = record {
  started = h.started;
  off = h.off;
  blocks = rw (c.set_status.ensures, c.block.ensures, h.blocks) refl;
  jobs = c.accept.ensures.agrees s.waiting s.hand h.jobs new taken;
  sweep = h.sweep;
  member = h.member;
  alone = rw none tt;
  rooms = ap (λ (b : KeptBlocks). b.rooms) c.set_status.ensures ∙ h.rooms;
  places = c.accept.ensures.places ∙ h.places;
}
