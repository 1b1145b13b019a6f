use Rattle.nv_base.proofs.Lists.{AreMarks-may_push}
use Rattle.nv_base.proofs.marks.Marks.add.Goals as goal

pub invariant_of-self : goal.invariant_of-self
invariant_of-self c =
    rw c.push.ensures.items
    (AreMarks-may_push _ c.self.inside.items.items c.args.instance c.args.mark c.self.invariant (rw c.self.view_is c.requires.above) c.requires.block c.requires.index c.requires.stored)
