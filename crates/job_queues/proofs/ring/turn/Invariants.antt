use Rattle.std.proofs.Common.{◌≡◌, ◌++◌, take, drop, length}
use Rattle.job_queues.specs.Jobs.{without}
use Rattle.job_queues.proofs.ring.turn.Given as goal

abbrev pub invariant-loop : goal.invariant-loop
invariant-loop l = (l.end ≡ length l.fn.ring.items) × (l.ring ≡ record l.fn.ring { items = drop l.counter l.fn.ring.items ++ without l.number (take l.counter l.fn.ring.items) })
