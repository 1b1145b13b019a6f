use Rattle.std.proofs.Common.{refl, ap}
use Rattle.job_queues.specs.Jobs.{Jobs}
use Rattle.job_pending.specs.Slots.{SlotsState}
use Rattle.job_pending.proofs.Agreement.{none_pending}
use Rattle.job_pending.proofs.pending.PendingJobs.clear.Goals as goal

pub returns-clause-agrees : goal.returns-clause-agrees
returns-clause-agrees c c' waiting held agrees =
    let h = rw (← c.self.view_is) at agrees in
    none_pending c' _ (ap (λ (s : SlotsState). s.jobs) c.clear.ensures) refl
    (ap (λ (q : Jobs). q.immediate) c.clear-2.ensures) (ap (λ (q : Jobs). q.standard) c.clear-2.ensures) refl refl
    (rw (c.clear.ensures, c.clear-2.ensures) h.room)
