use Rattle.std.proofs.Common.{◌≡◌, ◌<◌, ◌∙◌, ap, refl, sym, subst, Option, Some, is_some, if◌then◌else◌}
use Rattle.block_machine.specs.State.{Job}
use Rattle.block_machine.specs.Blocks.{job_block}
use Rattle.block_machine.specs.Steps.{interrupted, picked_job, without_job}
use Rattle.job_pending.specs.Pending.{Agree}
use Rattle.job_pending.specs.Take.{Took, taken_with}
use Rattle.job_pending.proofs.Agreement.{apart_again, interrupted_standard, picked}
use Rattle.job_pending.proofs.pending.PendingJobs.pick.Goals as goal

pub returns-in_default-clause-agrees : goal.returns-in_default-clause-agrees
returns-in_default-clause-agrees c waiting held j agrees next free =
    let t = c.take_out.ensures.agrees c.args.config.now waiting held j agrees next in
    absurd (c.in_default.not-Some j t.job)

pub returns-clause-agrees : goal.returns-clause-agrees
returns-clause-agrees c waiting held j agrees next free =
    let t = c.take_out.ensures.agrees c.args.config.now waiting held j agrees next in
    let b = c.put_back-handed_on.ensures.agrees _ held t.agrees (interrupted_standard c.args.config.now held j free) in
    let n : c.put_back-handed_on.result ≡ (if is_some held then 2 else 0) = c.put_back-handed_on.ensures.more ∙ ap (λ (o : Option Job). if is_some o then 2 else 0) (c.take_out.ensures.hand ∙ agrees.hand) in
    let same : c.in-Some.job ≡ j = cc (c.in-Some.is, t.job) in
    let place : job_block j < c.put_back-handed_on.new.self.slots.places = rw (c.put_back-handed_on.ensures.places, c.take_out.ensures.places) t.place in
    let took : Took = (c.args.take, c.args.copy) in
    let more = if is_some held then 2 else 0 in
    rw (c.hold.ensures, c.pick.ensures, n)
    (subst (λ (x : Job). Agree c.args.config.now (record c.put_back-handed_on.new.self { hand = Some (picked_job (taken_with x.content took) more x) })
    (interrupted held (without_job j.number waiting)) (Some (picked_job (taken_with j.content took) more j))) (sym same)
    (picked c.args.config.now _ (without_job j.number waiting) held j (picked_job (taken_with j.content took) more j) b (apart_again held j _ t.other t.apart) place refl refl refl refl free t.leads))
