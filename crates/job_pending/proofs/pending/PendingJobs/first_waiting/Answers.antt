use Rattle.std.proofs.Common.{◌∙◌, rules}
use Rattle.job_pending.proofs.Agreement.{next_on, no_next}
use Rattle.job_pending.proofs.pending.PendingJobs.first_waiting.Goals as goal

pub returns-in_err-first : goal.returns-in_err-first
returns-in_err-first c c' waiting held agrees =
    let h = rw (← c.self.view_is) at agrees in
    let n = no_next c' _ waiting held h c.in_err-first.ensures in
    rw n (search rules)

pub returns : goal.returns
returns c c' waiting held agrees =
    let h = rw (← c.self.view_is) at agrees in
    c.job.ensures ∙ next_on c' _ waiting held c.in_ok-first.first h c.in_ok-first.ensures
