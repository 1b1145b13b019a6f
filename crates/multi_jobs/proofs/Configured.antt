-- Members are configured blocks.
use Rattle.std.proofs.Common.{◌≡◌, ℕ, ◌<◌, ◌≤◌, Bool, true, false, List, [], ◌∷◌, length, refl, arith}
use Rattle.block_machine.specs.Words.{Configuration}
use Rattle.multi_jobs.specs.declared.sweep.Place.{Place}
use Rattle.multi_jobs.specs.declared.sweep.Place.TheVariants.{First, Behind, Over}
use Rattle.multi_jobs.specs.Members.{ids_from}
use Rattle.multi_jobs.specs.Sweep.{members_at, with_last}
use Rattle.multi_jobs.specs.Laws.{MembersAreConfigured}
use Rattle.multi_jobs.proofs.Ids.{ids_below}

behind_by : (c : Configuration) (w : Bool) (k id : ℕ) (rest l : List ℕ) → 0 < length c.blocks → ids_from c w k ≡ l → with_last w l ≡ id ∷ rest → id ≤ length c.blocks
behind_by c true k id rest [] some is e = let one : 1 ≡ id = cc in omega (arith, one, some)
behind_by c false k id rest [] some is e = cc
behind_by c true k id rest (m ∷ ms) some is e = let same : m ≡ id = cc in omega (arith, same, ids_below c true k m ms is)
behind_by c false k id rest (m ∷ ms) some is e = let same : m ≡ id = cc in omega (arith, same, ids_below c false k m ms is)

at_place : (c : Configuration) (w : Bool) (p : Place) (id : ℕ) (rest : List ℕ) → 0 < length c.blocks → members_at c w p ≡ id ∷ rest → id ≤ length c.blocks
at_place c w First id rest some e = let one : 1 ≡ id = cc in omega (arith, one, some)
at_place c w (Behind k) id rest some e = behind_by c w k id rest (ids_from c w k) some refl e
at_place c w Over id rest some e = cc

pub members_are_configured : MembersAreConfigured
members_are_configured c s id rest some is = at_place c s.writes s.place id rest some is
