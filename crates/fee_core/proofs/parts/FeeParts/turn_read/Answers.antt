use Rattle.std.proofs.Common.{inl, inr, refl, sym, ap, ◌∙◌, subst}
use Rattle.fee_laws.specs.fee_log.Index.{place_in}
use Rattle.fee_laws.specs.fee_log.Log.{LogState}
use Rattle.fee_laws.specs.Reads.{IsErasedAt}
use Rattle.fee_laws.proofs.Read.{marks_are_read}
use Rattle.fee_core.proofs.Reading.{read_within, reading, asked_for, content_read, read_fails}
use Rattle.fee_core.proofs.Standing.{stands, turned_from, job_is, job_few}
use Rattle.fls_model.specs.declared.flash.FlashAnswer.TheVariants.{Done}
use Rattle.fee_core.proofs.parts.FeeParts.turn_read.Goals as goal

pub read-answer-requires-clause-within : goal.read-answer-requires-clause-within
read-answer-requires-clause-within g c =
    let at = stands c.self.view_is c.requires.up c.active-active.ensures.state c.active-active.ensures.log in
    let is = reading at c.requires.job c.requires.op in
    let log = c.in-Some.ensures.1 in
    let numbers = ap (λ (l : LogState). l.numbers) log ∙ at.on.sound.made_for.numbers in
    read_within _ c.in-Some.log.now c.args.job c.in-Content.at c.in-Content.count c.find.result (job_is at.on is.job) c.requires.op numbers c.find.ensures.within c.in-Content.is

pub read-answer-requires-clause-few : goal.read-answer-requires-clause-few
read-answer-requires-clause-few g c =
    let at = stands c.self.view_is c.requires.up c.active-active.ensures.state c.active-active.ensures.log in
    job_few at.on (reading at c.requires.job c.requires.op).job

pub returns-in_default : goal.returns-in_default
returns-in_default g c =
    let at = stands c.self.view_is c.requires.up c.active-active.ensures.state c.active-active.ensures.log in
    let is = reading at c.requires.job c.requires.op in
    turned_from at refl refl at.up.on ((marks_are_read _ _ _ _ _ _ c.args.job is).1 (inl c.in_default.ensures)) at.up.sound.follows at.up.sound.wears at.up.sound.restarts

pub returns-in-Invalid : goal.returns-in-Invalid
returns-in-Invalid g c =
    let at = stands c.self.view_is c.requires.up c.active-active.ensures.state c.active-active.ensures.log in
    let is = reading at c.requires.job c.requires.op in
    let log = c.in-Some.ensures in
    let place = ap (λ (l : LogState). place_in l.numbers l.places c.args.job.number.0) (sym log.1) ∙ sym c.find.ensures.place ∙ c.in-Invalid.is in
    turned_from at refl refl at.up.on ((marks_are_read _ _ _ _ _ _ c.args.job is).0 log.0 c.in-Invalid.count place) at.up.sound.follows at.up.sound.wears at.up.sound.restarts

pub returns-in-Erased : goal.returns-in-Erased
returns-in-Erased g c =
    let at = stands c.self.view_is c.requires.up c.active-active.ensures.state c.active-active.ensures.log in
    let is = reading at c.requires.job c.requires.op in
    let place = ap (λ (l : LogState). place_in l.numbers l.places c.args.job.number.0) (sym c.in-Some.ensures.1) ∙ sym c.find.ensures.place in
    turned_from at refl refl at.up.on ((marks_are_read _ _ _ _ _ _ c.args.job is).1 (inr (subst IsErasedAt (sym place) c.in-Erased.is))) at.up.sound.follows at.up.sound.wears at.up.sound.restarts

pub returns-in-Done : goal.returns-in-Done
returns-in-Done g c =
    let at = stands c.self.view_is c.requires.up c.active-active.ensures.state c.active-active.ensures.log in
    let log = c.in-Some.ensures in
    let asked = asked_for at c.requires.job c.requires.op c.in-Content.at c.in-Content.count c.read-answer.new.self Done c.read-answer.new.fls c.in-Some.log.now log.0 log.1 (sym c.find.ensures.place ∙ c.in-Content.is) c.in-Done.ensures.read c.in-Done.ensures.same c.in-Done.ensures.room in
    content_read at c.requires.job c.requires.op c.in-Content.at c.in-Content.count c.read-answer.new.self Done c.read-answer.new.fls asked refl

pub returns-in_default-answer : goal.returns-in_default-answer
returns-in_default-answer g c =
    let at = stands c.self.view_is c.requires.up c.active-active.ensures.state c.active-active.ensures.log in
    let log = c.in-Some.ensures in
    let asked = asked_for at c.requires.job c.requires.op c.in-Content.at c.in-Content.count c.read-answer.new.self c.read-answer.result c.read-answer.new.fls c.in-Some.log.now log.0 log.1 (sym c.find.ensures.place ∙ c.in-Content.is) c.read-answer.ensures.read c.read-answer.ensures.same c.read-answer.ensures.room in
    read_fails at c.requires.job c.requires.op c.in-Content.at c.in-Content.count c.read-answer.new.self c.read-answer.result c.read-answer.new.fls asked c.in_default-answer.not-Done c.saturating_add-self-inside.result c.saturating_add-self-inside.ensures
