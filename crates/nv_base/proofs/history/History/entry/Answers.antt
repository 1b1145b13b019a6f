use Rattle.std.proofs.Common.{rules, ◌≡◌, Some, slice_get, refl, arith, ◌∙◌}
use Rattle.std.proofs.lemmas.Option.{slice_get_read}
use Rattle.nv_base.proofs.Placed.{placed_length, placed_get, stands_within}
use Rattle.nv_base.proofs.history.History.entry.Goals as goal

pub returns-in-Some : goal.returns-in-Some
returns-in-Some c =
    let place : slice_get c.self.inside.places.items c.args.i ≡ Some c.in-Some.place = search rules in
    let item : slice_get c.self.inside.stored.items c.in-Some.place ≡ Some c.index.result.now = slice_get_read _ _ _ _ refl (stands_within _ _ _ _ c.self.invariant.within place) c.index.ensures in
    rw (← c.self.view_is) (placed_get _ _ _ _ c.self.invariant.within place ∙ item)

pub returns-in-None : goal.returns-in-None
returns-in-None c = rw (← c.self.view_is) (omega (arith, placed_length _ _ c.self.invariant.within))
