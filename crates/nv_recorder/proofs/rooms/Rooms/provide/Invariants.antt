use Rattle.std.proofs.Common.{◌≡◌, ◌≤◌}
use Rattle.nv_recorder.proofs.rooms.Rooms.provide.Given as goal

abbrev pub invariant-loop-i : goal.invariant-loop-i
invariant-loop-i l = (l.self.longest ≡ l.initial.self.longest) × (l.initial.self.count ≤ l.self.count) × (l.self.count ≡ l.i)
