use Rattle.std.proofs.Common.{◌≡◌, refl}
use Rattle.job_pending.proofs.Agreement.{stays_in_hand}
use Rattle.job_pending.proofs.pending.PendingJobs.wrote.Goals as goal

pub returns-clause-agrees : goal.returns-clause-agrees
returns-clause-agrees c c' waiting h agrees =
    let a = rw (← c.self.view_is) at agrees in
    let same : c.in-Some.job ≡ h = cc (c.in-Some.is, a.hand) in
    rw (c.wrote.ensures, same) (stays_in_hand c' _ waiting h _ a refl refl refl refl)
