use Rattle.std.proofs.Common.{rules, ◌≡◌, Some, length, slice_get, refl}
use Rattle.nv_base.proofs.Placed.{placed_again, placed_first, are_again, are_first}
use Rattle.nv_base.proofs.history.History.add_long.Goals as goal

pub invariant_of-self : goal.invariant_of-self
invariant_of-self c =
    let stands : slice_get c.self.inside.stored.items c.in-Some.place ≡ Some c.args.entry = rw (← c.as_slice.ensures.value) c.in-Some.ensures in
    rw (c.push_reserved.ensures.items, c.push_reserved.ensures.capacity)
    (are_again _ _ _ _ _ _ c.args.entry c.self.invariant (rw (← c.self.view_is) at c.requires.below) (rw (← c.self.view_is) at c.requires.room) c.in-Some.place stands)

pub returns-in-Some : goal.returns-in-Some
returns-in-Some c =
    let stands : slice_get c.self.inside.stored.items c.in-Some.place ≡ Some c.args.entry = rw (← c.as_slice.ensures.value) c.in-Some.ensures in
    rw (← c.self.view_is, c.push_reserved.ensures.items)
    (rw (placed_again c.self.inside.stored.items c.args.entry c.self.inside.places.items c.in-Some.place stands) refl)

pub invariant_of-self-2 : goal.invariant_of-self-2
invariant_of-self-2 c =
    let last : c.len-place.result ≡ length c.self.inside.stored.items = search rules in
    rw (c.push_reserved-3.ensures.items, c.push_reserved-3.ensures.capacity, c.push_reserved-2.ensures.items, c.push_reserved-2.ensures.capacity, last)
    (are_first _ _ _ _ _ _ c.args.entry c.self.invariant (rw (← c.self.view_is) at c.requires.below) (rw (← c.self.view_is) at c.requires.room))

pub returns : goal.returns
returns c =
    let last : c.len-place.result ≡ length c.self.inside.stored.items = search rules in
    rw (← c.self.view_is, c.push_reserved-3.ensures.items, c.push_reserved-2.ensures.items, last)
    (rw (placed_first c.self.inside.stored.items c.args.entry c.self.inside.places.items c.self.invariant.within) refl)
