use Rattle.std.specs.Prelude.{is_some}
use Rattle.std.proofs.Common.{refl, sym, ap, ◌∙◌}
use Rattle.fls_model.specs.declared.flash.FlashAnswer.TheVariants.{Done, Off}
use Rattle.fee_core.specs.Whole.{Whole}
use Rattle.fee_core.proofs.Standing.{stands, turned_from, turned_same}
use Rattle.fee_core.proofs.Stepping.{not_worn, may_step, target, goes_on, fails, is_cut, follows_on, failed_follows, wears_on, failed_wears_on, restarts_on, failed_restarts}
use Rattle.fee_core.proofs.parts.FeeParts.turn_target.Goals as goal

pub change_target-answer-requires-clause-worn : goal.change_target-answer-requires-clause-worn
change_target-answer-requires-clause-worn g c =
    let at = stands c.self.view_is c.requires.up c.active-active.ensures.state c.active-active.ensures.log in
    not_worn at.on (ap (λ (x : Whole). is_some x.parts.banks.course) c.self.view_is ∙ c.requires.course)

pub change_target-answer-requires-clause-ready : goal.change_target-answer-requires-clause-ready
change_target-answer-requires-clause-ready g c = may_step (stands c.self.view_is c.requires.up c.active-active.ensures.state c.active-active.ensures.log).on

pub returns-in-Done : goal.returns-in-Done
returns-in-Done g c =
    let at = stands c.self.view_is c.requires.up c.active-active.ensures.state c.active-active.ensures.log in
    let is = target at c.requires.course c.requires.reads c.change_target-answer.ensures c.active-active.ensures.copies c.active-active.ensures.bytes c.requires.idle c.requires.behind c.status.ensures.state in
    let done = c.in-Done.is in
    turned_from at refl c.saturating_add-self-inside.ensures at.up.on (goes_on is done) (follows_on is Done done at.up.sound.follows) (wears_on is at.up.sound.follows at.up.sound.wears) (restarts_on is Done done (λ e. cc e) at.up.sound.restarts)

pub returns-in-Failed : goal.returns-in-Failed
returns-in-Failed g c =
    let at = stands c.self.view_is c.requires.up c.active-active.ensures.state c.active-active.ensures.log in
    let is = target at c.requires.course c.requires.reads c.change_target-answer.ensures c.active-active.ensures.copies c.active-active.ensures.bytes c.requires.idle c.requires.behind c.status.ensures.state in
    let failed = c.in-Failed.is in
    turned_same c.fail.ensures (turned_from at refl c.saturating_add-self-inside.ensures at.up.on (fails is failed) (failed_follows is failed at.up.sound.follows) (failed_wears_on is at.up.sound.follows at.up.sound.wears) (failed_restarts is failed at.up.sound.restarts))

pub returns-in-Off : goal.returns-in-Off
returns-in-Off g c =
    let at = stands c.self.view_is c.requires.up c.active-active.ensures.state c.active-active.ensures.log in
    let is = target at c.requires.course c.requires.reads c.change_target-answer.ensures c.active-active.ensures.copies c.active-active.ensures.bytes c.requires.idle c.requires.behind c.status.ensures.state in
    let cut = c.in-Off.is in
    let turned = is_cut is cut in
    turned_from at refl c.saturating_add-self-inside.ensures refl turned (follows_on is Off cut at.up.sound.follows) (wears_on is at.up.sound.follows at.up.sound.wears) (restarts_on is Off cut (λ e. sym (turned.sound.off at.on.started)) at.up.sound.restarts)
