-- A member that is taken.
use Rattle.std.proofs.Common.{◌≡◌, ℕ, ◌≤◌, Bool, true, false, List, [], ◌∷◌, drop, slice_get, refl, sym, ap, arith}
use Rattle.std.proofs.lemmas.Bool.{ne_eqb}
use Rattle.block_machine.specs.Words.{Configuration}
use Rattle.multi_jobs.specs.declared.sweep.Place.{Place}
use Rattle.multi_jobs.specs.declared.sweep.Place.TheVariants.{First, Behind, Over}
use Rattle.multi_jobs.specs.Members.{ids_from}
use Rattle.multi_jobs.specs.Sweep.{members_at, place_at, with_last}
use Rattle.multi_jobs.specs.Laws.{TakesTheFirst}
use Rattle.multi_jobs.proofs.Ids.{ids_first}

behind_by : (c : Configuration) (w : Bool) (k : ℕ) (l : List ℕ) → ids_from c w k ≡ l → members_at c w (place_at (Behind k) (slice_get (with_last w l) 0)) ≡ drop 1 (with_last w l)
behind_by c true k [] e = refl
behind_by c false k [] e = e
behind_by c true k (m ∷ rest) e =
    let f = ids_first c true k m rest e in
    let le : 2 ≤ m = f.0 in
    rw (ne_eqb m 1 (omega arith)) (ap (with_last true) (sym f.1))
behind_by c false k (m ∷ rest) e =
    let f = ids_first c false k m rest e in
    let le : 2 ≤ m = f.0 in
    rw (ne_eqb m 1 (omega arith)) (sym f.1)

by_place : (c : Configuration) (w : Bool) (p : Place) → members_at c w (place_at p (slice_get (members_at c w p) 0)) ≡ drop 1 (members_at c w p)
by_place c w First = refl
by_place c w (Behind k) = behind_by c w k (ids_from c w k) refl
by_place c w Over = refl

pub takes_the_first : TakesTheFirst
takes_the_first c s e = rw e (by_place c s.writes s.place)
