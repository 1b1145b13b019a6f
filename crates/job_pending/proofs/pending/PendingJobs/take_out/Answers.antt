use Rattle.std.proofs.Common.{◌≡◌}
use Rattle.job_queues.specs.Laws.{waiting_of}
use Rattle.job_pending.proofs.Agreement.{first_is, next_on, taken}
use Rattle.job_pending.proofs.pending.PendingJobs.take_out.Goals as goal

pub returns-in_err-first-clause-agrees : goal.returns-in_err-first-clause-agrees
returns-in_err-first-clause-agrees c c' waiting held j agrees next =
    let h = rw (← c.self.view_is) at agrees in
    let f = first_is c' _ waiting held j h next in
    let g = c.in_err-first.ensures.first in
    cc

pub returns-in_err-job-clause-agrees : goal.returns-in_err-job-clause-agrees
returns-in_err-job-clause-agrees c c' waiting held j agrees next =
    let h = rw (← c.self.view_is) at agrees in
    let f = next_on c' _ waiting held c.in_ok-first.first h c.in_ok-first.ensures.first in
    let g = c.in_err-job.ensures.value in
    cc

pub returns-clause-agrees : goal.returns-clause-agrees
returns-clause-agrees c c' waiting held j agrees next =
    let h = rw (← c.self.view_is) at agrees in
    let f = next_on c' _ waiting held c.in_ok-first.first h c.in_ok-first.ensures.first in
    let g = first_is c' _ waiting held j h next in
    let same : c.in_ok-job.job ≡ j = cc (c.in_ok-job.ensures.value, f, next) in
    let place : c.in_ok-first.first ≡ waiting_of c' j = cc (c.in_ok-first.ensures.first, g) in
    rw (← c.self.view_is, c.next.ensures.taken, c.pick.ensures, c.was_picked.ensures, c.saturating_sub-self-inside.ensures, c.reserved.ensures, same, place)
    (taken c' _ waiting held j c.take.new.self h next (rw place at c.take.ensures.left))
