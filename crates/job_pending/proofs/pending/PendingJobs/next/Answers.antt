use Rattle.std.proofs.Common.{rules}
use Rattle.job_queues.proofs.Order.{no_first}
use Rattle.job_pending.proofs.Agreement.{no_next}
use Rattle.job_pending.proofs.pending.PendingJobs.next.Goals as goal

pub returns-then-is_empty : goal.returns-then-is_empty
returns-then-is_empty c c' waiting held agrees =
    let h = rw (← c.self.view_is) at agrees in
    let n = no_next c' _ waiting held h (no_first c.self.inside.queues (c.is_empty.ensures.0 c.if-is_empty.true)) in
    rw n (search rules)
