use Rattle.std.proofs.Common.{refl, ap}
use Rattle.job_queues.specs.Jobs.{Jobs}
use Rattle.job_pending.specs.Slots.{SlotsState}
use Rattle.job_pending.proofs.Agreement.{none_pending}
use Rattle.job_pending.proofs.pending.PendingJobs.make.Goals as goal

pub returns-clause-agrees : goal.returns-clause-agrees
returns-clause-agrees c =
    none_pending c.args.config.now _ (ap (λ (s : SlotsState). s.jobs) c.in_ok-slots.ensures) refl
    (ap (λ (q : Jobs). q.immediate) c.in_ok-queues.ensures) (ap (λ (q : Jobs). q.standard) c.in_ok-queues.ensures) refl refl
    (rw (c.in_ok-slots.ensures, c.in_ok-queues.ensures) c.room_for-room.ensures)
