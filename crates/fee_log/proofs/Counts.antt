-- How often the numbers were written has room in 32 bits.
use Rattle.std.specs.Prelude.{if◌then◌else◌, slice_get, ◌^◌}
use Rattle.std.proofs.Common.{◌≡◌, ℕ, zero, suc, ◌<◌, Bool, true, false, List, [], ◌∷◌, Option, Some, None, refl, sym, subst, arith}
use Rattle.nv_base.specs.Held.{more_writes}
use Rattle.nv_base.specs.Lengths.{place_of}
use Rattle.nv_base.specs.declared.instance.DeviceNumber.{DeviceNumber}
use Rattle.fee_format.specs.declared.rec_head.RecHead.{RecHead}
use Rattle.fee_format.specs.declared.rec_head.RecordKind.{RecordKind}
use Rattle.fee_format.specs.declared.rec_head.RecordKind.TheVariants as kind
use Rattle.fee_image.specs.Found.{fits}
use Rattle.fee_image.specs.declared.place.Place.{Place}
use Rattle.fee_image.specs.declared.place.Place.TheVariants.{Unwritten}
use Rattle.fee_image.specs.Places.{count_at, place_of_kind, place_at, noted, erased_places}
use Rattle.fee_log.specs.Index.{AreCounted, at_index, or_else, place_in}
use Rattle.fee_log.specs.Laws.{PlacesAreCounted, NextIsCounted}

pub erased_counted : (ns : List (DeviceNumber × ℕ)) → AreCounted (erased_places ns)
erased_counted [] = tt
erased_counted (n ∷ ns) = (omega arith, erased_counted ns)

kind_count : (k : RecordKind) (at count : ℕ) → count_at (place_of_kind k at count) ≡ count
kind_count kind.Content at count = refl
kind_count kind.Invalid at count = refl
kind_count kind.Erased at count = refl

place_counted : (at : ℕ) (h : RecHead) → h.count < 2 ^ 32 → count_at (place_at at h) < 2 ^ 32
place_counted at h small = subst (λ (n : ℕ). n < 2 ^ 32) (sym (kind_count h.kind at h.count)) small

pick_counted : (b : Bool) (x y : Place) → count_at x < 2 ^ 32 → count_at y < 2 ^ 32 → count_at (if b then x else y) < 2 ^ 32
pick_counted true x y one two = one
pick_counted false x y one two = two

-- one record more
pub noted_counted : (ns : List (DeviceNumber × ℕ)) (places : List Place) (at : ℕ) (h : RecHead) → h.count < 2 ^ 32 → AreCounted places → AreCounted (noted ns places at h)
noted_counted [] places at h small all = all
noted_counted (n ∷ ns) [] at h small all = all
noted_counted (n ∷ ns) (place ∷ places) at h small all =
    (pick_counted (fits n.0.0 n.1 h) (place_at at h) place (place_counted at h small) all.0, noted_counted ns places at h small all.1)

-- ONE PLACE
at_counted : (places : List Place) (i : ℕ) (place : Place) → AreCounted places → slice_get places i ≡ Some place → count_at place < 2 ^ 32
at_counted [] i place all is = cc
at_counted (x ∷ xs) zero place all is = let same : x ≡ place = cc in subst (λ (p : Place). count_at p < 2 ^ 32) same all.0
at_counted (x ∷ xs) (suc i) place all is = at_counted xs i place all.1 is

pub places_are_counted : PlacesAreCounted
places_are_counted s i place sound is = at_counted s.places i place sound.counts is

or_counted : (places : List Place) (o : Option Place) → ((place : Place) → o ≡ Some place → count_at place < 2 ^ 32) → count_at (or_else Unwritten o) < 2 ^ 32
or_counted places None each = omega arith
or_counted places (Some place) each = each place refl

found_counted : (places : List Place) (i : Option ℕ) → AreCounted places → count_at (or_else Unwritten (at_index places i)) < 2 ^ 32
found_counted places None all = omega arith
found_counted places (Some i) all = or_counted places (slice_get places i) (λ place is. at_counted places i place all is)

next_counted : (count : ℕ) → count < 2 ^ 32 → more_writes 1 count < 2 ^ 32
next_counted count small = omega (arith, small)

pub next_is_counted : NextIsCounted
next_is_counted s number kind length sound = next_counted (count_at (place_in s.numbers s.places number.0)) (found_counted s.places (place_of s.numbers number.0) sound.counts)
