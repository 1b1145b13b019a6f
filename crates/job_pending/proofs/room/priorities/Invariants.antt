use Rattle.std.proofs.Common.{◌≡◌, ℕ, false, get_or, length}
use Rattle.job_pending.specs.Room.{has_priority}
use Rattle.job_pending.proofs.room.priorities.Given as goal

-- found are the priorities of the blocks so far
abbrev pub invariant-loop-id : goal.invariant-loop-id
invariant-loop-id l = (length l.found ≡ 256) × ((p : ℕ) → get_or l.found p false ≡ has_priority l.config l.id p)
