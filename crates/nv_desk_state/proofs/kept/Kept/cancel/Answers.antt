use Rattle.nv_desk_state.proofs.Members.{alone_canceled, member_canceled, sweep_canceled}
use Rattle.nv_desk_state.proofs.kept.Kept.cancel.Goals as goal

pub returns-in-Some : goal.returns-in-Some
returns-in-Some c c' s h = record {
  started = h.started;
  off = h.off;
  blocks = h.blocks;
  jobs = h.jobs;
  sweep = sweep_canceled c' c.in-Some.sweep c.cancel.new.self c.args.self.now.sweep s.sweep c.in-Some.is (c.cancel.ensures.canceled c') h.sweep;
  member = member_canceled c' c.in-Some.sweep c.cancel.new.self c.args.self.now.sweep s.hand s.sweep c.in-Some.is (c.cancel.ensures.noted c') h.member;
  alone = alone_canceled s.waiting s.sweep h.alone;
  rooms = h.rooms;
  places = h.places;
}
