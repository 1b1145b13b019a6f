use Rattle.std.proofs.Common.{sym, ap}
use Rattle.memif.specs.declared.answer.PlainMark.TheVariants as plain
use Rattle.fee_core.proofs.Settled.{kind_at, kind_erased, kind_found, kind_none}
use Rattle.fee_core.proofs.parts.FeeParts.kind.Goals as goal

pub returns-in_default : goal.returns-in_default
returns-in_default g c = kind_none c.self.view_is c.requires c.args.number.0 c.in_default.ensures

pub returns-in-Content : goal.returns-in-Content
returns-in-Content g c =
    let log = c.in-Some.ensures in
    kind_found c.self.view_is c.requires c.args.number.0 c.in-Some.log.now log.0 log.1 c.find.result c.find.ensures.place plain.Content (sym (ap kind_at c.in-Content.is))

pub returns-in-Invalid : goal.returns-in-Invalid
returns-in-Invalid g c =
    let log = c.in-Some.ensures in
    kind_found c.self.view_is c.requires c.args.number.0 c.in-Some.log.now log.0 log.1 c.find.result c.find.ensures.place plain.Invalid (sym (ap kind_at c.in-Invalid.is))

pub returns-in-Erased : goal.returns-in-Erased
returns-in-Erased g c =
    let log = c.in-Some.ensures in
    kind_found c.self.view_is c.requires c.args.number.0 c.in-Some.log.now log.0 log.1 c.find.result c.find.ensures.place plain.Erased (kind_erased c.find.result c.in-Erased.is)
