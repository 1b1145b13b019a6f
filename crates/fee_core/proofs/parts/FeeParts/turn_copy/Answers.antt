use Rattle.std.specs.Prelude.{is_some}
use Rattle.std.proofs.Common.{Option, refl, ap}
use Rattle.fls_model.specs.declared.flash.FlashAnswer.TheVariants.{Done}
use Rattle.fee_course.specs.declared.course.Course.{Course}
use Rattle.fee_core.proofs.Standing.{stands, turned_from, turned_same}
use Rattle.fee_core.proofs.Stepping.{not_worn, may_step}
use Rattle.fee_core.proofs.Copying.{copies_next, copy, copy_done, copied, not_copied, copy_follows, failed_copy_follows, failed_copy_wears, copied_restarts, failed_copy_restarts}
use Rattle.fee_core.proofs.parts.FeeParts.turn_copy.Goals as goal

pub step-answer-requires-clause-open : goal.step-answer-requires-clause-open
step-answer-requires-clause-open g c =
    let at = stands c.self.view_is c.requires.up c.active-active.ensures.state c.active-active.ensures.log in
    ap (λ (o : Option Course). is_some o) (copies_next at c.requires.reads)

pub step-answer-requires-clause-worn : goal.step-answer-requires-clause-worn
step-answer-requires-clause-worn g c =
    let at = stands c.self.view_is c.requires.up c.active-active.ensures.state c.active-active.ensures.log in
    not_worn at.on (ap (λ (o : Option Course). is_some o) (copies_next at c.requires.reads))

pub step-answer-requires-clause-ready : goal.step-answer-requires-clause-ready
step-answer-requires-clause-ready g c = may_step (stands c.self.view_is c.requires.up c.active-active.ensures.state c.active-active.ensures.log).on

pub returns-in-Failed : goal.returns-in-Failed
returns-in-Failed g c =
    let at = stands c.self.view_is c.requires.up c.active-active.ensures.state c.active-active.ensures.log in
    let is = copy at c.requires.reads c.active-active.ensures.copies c.active-active.ensures.bytes c.requires.idle c.requires.behind c.status.ensures.state c.step-answer.ensures.same c.step-answer.ensures.step c.active-behind.ensures.state in
    let failed = c.in-Failed.is in
    turned_same c.fail.ensures (turned_from at refl refl at.up.on (not_copied is failed) (failed_copy_follows is failed at.up.sound.follows) (failed_copy_wears is at.up.sound.wears) (failed_copy_restarts is at.up.sound.restarts))

pub returns-in_default : goal.returns-in_default
returns-in_default g c =
    let at = stands c.self.view_is c.requires.up c.active-active.ensures.state c.active-active.ensures.log in
    let is = copy at c.requires.reads c.active-active.ensures.copies c.active-active.ensures.bytes c.requires.idle c.requires.behind c.status.ensures.state c.step-answer.ensures.same c.step-answer.ensures.step c.active-behind.ensures.state in
    let done = copy_done is c.in_default.not-Failed in
    turned_from at refl refl at.up.on (copied is done) (copy_follows is Done done at.up.sound.follows) at.up.sound.wears (copied_restarts is done at.up.sound.restarts)
