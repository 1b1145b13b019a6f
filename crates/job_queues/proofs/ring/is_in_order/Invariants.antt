use Rattle.std.proofs.Common.{◌≡◌, ◌<◌, take, length}
use Rattle.job_queues.specs.InOrder.{InOrder}
use Rattle.job_queues.proofs.ring.is_in_order.Given as goal

-- the jobs so far are in order
abbrev pub invariant-loop-at : goal.invariant-loop-at
invariant-loop-at l = (l.at-end ≡ length l.ring.items) × (0 < l.at) × InOrder (take l.at l.ring.items)
