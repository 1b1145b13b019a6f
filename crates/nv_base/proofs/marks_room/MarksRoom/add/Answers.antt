use Rattle.nv_base.proofs.Lists.{AreMarks-push}
use Rattle.nv_base.proofs.marks_room.MarksRoom.add.Goals as goal

pub invariant_of-self : goal.invariant_of-self
invariant_of-self c =
    rw c.push_reserved.ensures.items
    (AreMarks-push 0 c.self.inside.items.items c.args.instance c.args.mark c.self.invariant (rw (← c.self.view_is) at c.requires.above) c.requires.block c.requires.index c.requires.stored)
