use Rattle.nv_base.proofs.Lists.{AreLengths-push}
use Rattle.nv_base.proofs.lengths.Lengths.add.Goals as goal

pub invariant_of-self-2 : goal.invariant_of-self-2
invariant_of-self-2 c =
    rw c.in_ok-push.ensures.items
    (AreLengths-push 0 c.self.inside.items.items c.args.number c.args.length c.self.invariant (rw c.self.view_is c.requires.above) c.requires.number c.requires.some c.requires.most)
