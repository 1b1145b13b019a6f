use Rattle.std.proofs.Common.{◌≡◌, ◌≤◌, count_by, take}
use Rattle.job_pending.proofs.room.count.Given as goal

-- so many of those so far are true
abbrev pub invariant-loop-is : goal.invariant-loop-is
invariant-loop-is l = (l.count ≡ count_by (λ is. is) (take l.is-index l.found)) × (l.count ≤ l.is-index)
