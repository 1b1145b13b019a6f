use Rattle.std.proofs.Common.{ap, sym}
use Rattle.block_machine.specs.nv_base.declared.instance.Instance.{Instance}
use Rattle.nv_desk.proofs.Founds.{erased_noted, marked_noted}
use Rattle.nv_desk.proofs.found.note_place.Goals as goal

pub returns-in-Erased : goal.returns-in-Erased
returns-in-Erased c = λ s agrees. erased_noted c.args.config.now c.args.kept.now s c.args.found.now.places c.args.i c.in-Some.place.now c.in-Some.ensures c.in-Erased.is agrees

pub returns-in-Content : goal.returns-in-Content
returns-in-Content c = λ s agrees.
    marked_noted c.args.config.now c.args.kept.now c.note_mark.new.self s c.args.found.now.places c.args.i c.in-Some.place.now c.in-Some.ensures c.in-Content.is
    (λ m before. c.note_mark.ensures s _ _ m (ap (λ (i : Instance). i.block) (sym c.instance_of.ensures.value)) before) agrees
