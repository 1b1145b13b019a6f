use Rattle.std.proofs.Common.{◌≡◌, true, false, refl, sym, ap, ◌∙◌, subst}
use Rattle.nv_base.specs.declared.geometry.Geometry.{Geometry}
use Rattle.memif.specs.declared.answer.JobResult.TheVariants.{JobOk, JobFailed}
use Rattle.fee_laws.specs.fee_log.Step.{commits}
use Rattle.fee_laws.specs.Turn.{ended_as}
use Rattle.fee_laws.proofs.Committed.{appends_commit}
use Rattle.fee_laws.proofs.Cut.{appends_are_cut}
use Rattle.fee_laws.proofs.Failed.{appends_fail}
use Rattle.fee_laws.proofs.GoneOn.{appends_go_on}
use Rattle.fee_core.specs.Whole.{Whole}
use Rattle.fee_core.proofs.Appending.{paged}
use Rattle.fee_core.proofs.Standing.{stands, turned_from, job_few}
use Rattle.fee_core.proofs.parts.FeeParts.turn_record.Goals as goal

pub program_record-step-requires-clause-few : goal.program_record-step-requires-clause-few
program_record-step-requires-clause-few g c =
    let at = stands c.self.view_is c.requires.up c.active-active.ensures.state c.active-active.ensures.log in
    job_few at.on (ap (λ (x : Whole). x.parts.job) c.self.view_is ∙ c.requires.job)

pub returns-in-More : goal.returns-in-More
returns-in-More g c =
    let at = stands c.self.view_is c.requires.up c.active-active.ensures.state c.active-active.ensures.log in
    let page = paged at c.requires.job c.requires.work c.status.ensures.state c.in-More.ensures.programmed in
    let more = subst (λ (x : Geometry). commits x.page c.self.inside.banks.log.tail ≡ false) at.on.banks.log.shape c.in-More.ensures.last in
    turned_from at (page.same _ refl) c.saturating_add-self-inside.ensures at.up.on (appends_go_on _ _ _ _ _ _ _ page.step more) page.follows page.wears (page.restarts (λ e. cc e))

pub returns-in-Committed : goal.returns-in-Committed
returns-in-Committed g c =
    let at = stands c.self.view_is c.requires.up c.active-active.ensures.state c.active-active.ensures.log in
    let page = paged at c.requires.job c.requires.work c.status.ensures.state c.in-Committed.ensures.programmed in
    let last = subst (λ (x : Geometry). commits x.page c.self.inside.banks.log.tail ≡ true) at.on.banks.log.shape c.in-Committed.ensures.last in
    turned_from at (ap (ended_as JobOk) (page.same _ refl)) c.saturating_add-self-inside.ensures at.up.on (appends_commit _ _ _ _ _ _ _ page.step last) page.follows page.wears (page.restarts (λ e. cc e))

pub returns-in-Failed : goal.returns-in-Failed
returns-in-Failed g c =
    let at = stands c.self.view_is c.requires.up c.active-active.ensures.state c.active-active.ensures.log in
    let page = paged at c.requires.job c.requires.work c.status.ensures.state c.in-Failed.ensures.programmed in
    turned_from at (ap (ended_as JobFailed) (page.same _ c.saturating_add-self-inside-in-Failed.ensures)) c.saturating_add-self-inside.ensures at.up.on (appends_fail _ _ _ _ _ _ _ page.step) page.follows page.wears (page.restarts (λ e. cc e))

pub returns-in-Off : goal.returns-in-Off
returns-in-Off g c =
    let at = stands c.self.view_is c.requires.up c.active-active.ensures.state c.active-active.ensures.log in
    let page = paged at c.requires.job c.requires.work c.status.ensures.state c.in-Off.ensures.programmed in
    let cut = appends_are_cut _ _ _ _ _ _ _ page.step in
    turned_from at (page.same _ refl) c.saturating_add-self-inside.ensures refl cut page.follows page.wears (page.restarts (λ e. sym (cut.sound.off at.on.started)))
