use Rattle.std.proofs.Common.{inr, [], None, false, refl, ap, ◌∙◌, sym, subst}
use Rattle.memif.specs.declared.answer.JobResult.TheVariants.{JobOk}
use Rattle.fls_model.specs.Attach.{IsAttached}
use Rattle.fls_jobs.specs.Start.{IsIdle}
use Rattle.fls_jobs.specs.State.{FlsState}
use Rattle.promise_device.specs.Making.{Making}
use Rattle.fee_laws.specs.Inside.{Parts, fixed_in}
use Rattle.nv_base.specs.Geometry.{sectors_of_bank}
use Rattle.fee_course.specs.Course.{most_turns}
use Rattle.fee_laws.proofs.FollowCalled.{unstarted_follows}
use Rattle.fee_laws.proofs.Making.{new_is_sound}
use Rattle.fee_core.specs.Whole.{Sound}
use Rattle.fee_core.proofs.Telling.{all_first}
use Rattle.fee_core.proofs.fee.Fee.make.Goals as goal

pub invariant_of-result : goal.invariant_of-result
invariant_of-result g c =
    let made = c.make-fls.ensures in
    let done = c.in_default-attach.ensures in
    let at = subst (λ (f : FlsState). IsAttached f.geometry f.flash c.attach.new.self.flash) made done.attach in
    let geometry = ap (λ (f : FlsState). f.geometry) done.ok ∙ ap (λ (f : FlsState). f.geometry) made in
    let idle : IsIdle c.attach.new.self = record { job = ap (λ (f : FlsState). f.job) done.ok; attached = ap (λ (f : FlsState). f.attached) done.ok } in
    let s : Parts = record { fls = c.attach.new.self; banks = c.in-Ok.banks; content = c.in-Ok.content; job = None; last = JobOk; given = 0; starts = 0; started = false; faults = 0; worn = None; operations = [] } in
    let m : Making = record { geometry = c.args.geometry; banks = c.args.banks; numbers = c.args.numbers.now; reserve = c.args.reserve } in
    let law = new_is_sound m _ s (record { legal = c.requires.legal; space = c.requires.space; attached = at; banks = c.in-Ok.ensures.banks; geometry = geometry; idle = idle; room = c.in-Ok.ensures.content }) in
    subst (Sound g.O.Origin.making g.O.Origin.entry) (sym c.unstarted.ensures) (rw (c.requires.making, c.requires.entry, c.in-Ok.ensures.numbers) (record { parts = law.0; follows = unstarted_follows s refl; wears = λ told. refl; restarts = inr (inr (refl, refl)) }))

pub returns-clause-parts : goal.returns-clause-parts
returns-clause-parts g c n =
    let m = g.O.Origin.making in
    all_first m.geometry.page (most_turns m.geometry.page (sectors_of_bank m.geometry m.banks) m.numbers) m.numbers n

pub returns-clause-fixed : goal.returns-clause-fixed
returns-clause-fixed g c = ap (λ (m : Making). fixed_in m) c.requires.making
