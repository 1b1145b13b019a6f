use Rattle.std.proofs.Common.{rules, ◌≡◌, length, refl}
use Rattle.nv_base.proofs.Placed.{placed_first, are_first}
use Rattle.nv_base.proofs.history.History.add_short.Goals as goal

pub invariant_of-self : goal.invariant_of-self
invariant_of-self c =
    let last : c.len-place.result ≡ length c.self.inside.stored.items = search rules in
    rw (c.push_reserved-2.ensures.items, c.push_reserved-2.ensures.capacity, c.push_reserved.ensures.items, c.push_reserved.ensures.capacity, last)
    (are_first _ _ _ _ _ _ c.args.entry c.self.invariant (rw (← c.self.view_is) at c.requires.below) (rw (← c.self.view_is) at c.requires.room))

pub returns : goal.returns
returns c =
    let last : c.len-place.result ≡ length c.self.inside.stored.items = search rules in
    rw (← c.self.view_is, c.push_reserved-2.ensures.items, c.push_reserved.ensures.items, last)
    (rw (placed_first c.self.inside.stored.items c.args.entry c.self.inside.places.items c.self.invariant.within) refl)
