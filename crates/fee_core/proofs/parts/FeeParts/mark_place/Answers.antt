use Rattle.std.proofs.Common.{ap, ◌∙◌}
use Rattle.fee_laws.specs.fee_log.Log.{LogState}
use Rattle.fee_core.proofs.MarkPlaces.{place_within, safe, none_placed, invalid_placed, erased_placed, content_placed}
use Rattle.fee_core.proofs.parts.FeeParts.mark_place.Goals as goal

pub returns-in_default : goal.returns-in_default
returns-in_default g c = none_placed c.self.view_is c.requires.sound c.requires.started c.args.number.0 c.args.length c.requires.configured c.in_default.ensures

pub content_at-requires : goal.content_at-requires
content_at-requires g c =
    let sound = safe c.self.view_is c.requires.sound c.requires.started c.args.number.0 c.args.length c.requires.configured in
    let numbers = ap (λ (l : LogState). l.numbers) c.in-Some.ensures.1 ∙ sound.made_for.numbers in
    place_within g.O.Origin.making c.in-Some.log.now c.args.number.0 c.args.length c.in-Content.at c.in-Content.count c.find.result numbers c.requires.configured c.find.ensures.within c.in-Content.is

pub returns-in-Content : goal.returns-in-Content
returns-in-Content g c =
    content_placed c.self.view_is c.requires.sound c.requires.started c.args.number.0 c.args.length c.requires.configured c.in-Some.log.now c.in-Some.ensures.0 c.in-Some.ensures.1
    c.active-active.ensures.state c.status-status.ensures.state c.find.result c.in-Content.at c.in-Content.count c.content_at.result c.find.ensures.place c.in-Content.is c.content_at.ensures.address c.content_at.ensures.inside

pub returns-in-Invalid : goal.returns-in-Invalid
returns-in-Invalid g c =
    invalid_placed c.self.view_is c.requires.sound c.requires.started c.args.number.0 c.args.length c.requires.configured c.in-Some.log.now c.in-Some.ensures.0 c.in-Some.ensures.1
    c.find.result c.in-Invalid.count c.find.ensures.place c.in-Invalid.is

pub returns-in-Erased : goal.returns-in-Erased
returns-in-Erased g c =
    erased_placed c.self.view_is c.requires.sound c.requires.started c.args.number.0 c.args.length c.requires.configured c.in-Some.log.now c.in-Some.ensures.0 c.in-Some.ensures.1
    c.find.result c.find.ensures.place c.in-Erased.is
