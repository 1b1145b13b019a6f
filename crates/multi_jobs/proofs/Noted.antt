-- The result of a member.
use Rattle.std.proofs.Common.{◌≡◌, ℕ, ◌-◌, ◌≤◌, ◌==◌, ◌||◌, Bool, true, false, if◌then◌else◌, List, [], ◌∷◌, drop, slice_get, refl, ap, ◌∙◌, arith, Option, Some, None}
use Rattle.std.proofs.lemmas.Bool.{ne_eqb}
use Rattle.block_machine.specs.Words.{Configuration}
use Rattle.block_machine.specs.Sweeps.{spoils}
use Rattle.multi_jobs.specs.declared.sweep.Place.{Place}
use Rattle.multi_jobs.specs.declared.sweep.Place.TheVariants.{First, Behind, Over}
use Rattle.multi_jobs.specs.Members.{ids_from}
use Rattle.multi_jobs.specs.Sweep.{members_at, place_at, is_behind_id}
use Rattle.multi_jobs.specs.Laws.{MembersAreNoted}
use Rattle.multi_jobs.proofs.Ids.{ids_first}
use Rattle.multi_jobs.proofs.Taken.{takes_the_first}

behind_by : (c : Configuration) (k id : ℕ) (l : List ℕ) (same t x y : Bool) → ids_from c false k ≡ l → slice_get l 0 ≡ Some id → x ≡ y → (if is_behind_id false (place_at (Behind k) (Some id)) then same else x) ≡ (if id == 1 then t else y)
behind_by c k id [] same t x y e n h = cc
behind_by c k id (m ∷ rest) same t x y e n h =
    let is : m ≡ id = cc in
    let f = ids_first c false k m rest e in
    let le : 2 ≤ m = f.0 in
    rw (ne_eqb id 1 (omega arith), ne_eqb (id - 1) 0 (omega arith)) h

same_by : (c : Configuration) (w : Bool) (p : Place) (id : ℕ) (same t x y : Bool) → w ≡ false → slice_get (members_at c w p) 0 ≡ Some id → (id ≡ 1 → same ≡ t) → x ≡ y → (if is_behind_id w (place_at p (Some id)) then same else x) ≡ (if id == 1 then t else y)
same_by c true p id same t x y w n d h = cc
same_by c false First id same t x y w n d h = let is : id ≡ 1 = cc in rw is (d is)
same_by c false (Behind k) id same t x y w n d h = behind_by c k id (ids_from c false k) same t x y refl n h
same_by c false Over id same t x y w n d h = cc

open_by : (t : Bool) (o : Option ℕ) (id : ℕ) → (if t then None else o) ≡ Some id → (t ≡ false) × (o ≡ Some id)
open_by true o id e = cc
open_by false o id e = (refl, e)

pub members_are_noted : MembersAreNoted
members_are_noted c s sw id r same a n d =
    let f = open_by s.canceled (slice_get (members_at c s.writes s.place) 0) id n in
    rw a.under_way (record {
      under_way = refl;
      writes = a.writes;
      canceled = a.canceled;
      same = λ w. rw n (same_by c s.writes s.place id same _ s.same sw.same w f.1 d (a.same w));
      spoiled = ap (λ t. t || spoils r) a.spoiled;
      left = takes_the_first c s f.0 ∙ ap (drop 1) a.left;
    })
