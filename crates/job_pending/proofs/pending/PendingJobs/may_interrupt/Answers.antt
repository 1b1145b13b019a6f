use Rattle.std.proofs.Common.{◌≡◌, Some}
use Rattle.job_pending.proofs.pending.PendingJobs.may_interrupt.Goals as goal

pub returns-in_default-next : goal.returns-in_default-next
returns-in_default-next c waiting h j agrees next =
    let e = c.in_default-next.ensures c.args.config.now waiting (Some h) agrees in
    cc

pub returns : goal.returns
returns c waiting h j agrees next =
    let e = c.in-Some-next.ensures c.args.config.now waiting (Some h) agrees in
    let f : c.in-Some.held.now ≡ h = cc (c.in-Some.ensures, agrees.hand) in
    let g : c.in-Some-next.next.now ≡ j = cc (e, next) in
    rw (← f, ← g) c.may_interrupt.ensures
