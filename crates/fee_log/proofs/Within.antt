-- Places among a bank's records.
use Rattle.std.proofs.Common.{◌≡◌, ℕ, zero, suc, ◌≤◌, ◌+◌, List, [], ◌∷◌, length, Some, slice_get, refl, subst, arith}
use Rattle.nv_base.specs.declared.instance.DeviceNumber.{DeviceNumber}
use Rattle.nv_base.specs.Pages.{record_pages_of}
use Rattle.fee_format.specs.declared.rec_head.RecHead.{RecHead}
use Rattle.fee_image.specs.Found.{fits}
use Rattle.fee_image.specs.declared.place.Place.{Place}
use Rattle.fee_image.specs.declared.place.Place.TheVariants.{Unwritten}
use Rattle.fee_image.specs.Places.{place_at, noted, erased_places, IsWithin}
use Rattle.fee_log.specs.Index.{AreWithin, or_else}
use Rattle.fee_image.proofs.Placed.{fits_length, kind_within, further as further_place, pick_within}

pub within_length : (p end : ℕ) (ns : List (DeviceNumber × ℕ)) (places : List Place) → AreWithin p end ns places
    → length places ≡ length ns
within_length p end [] [] all = refl
within_length p end [] (place ∷ places) all = absurd all
within_length p end (n ∷ ns) [] all = absurd all
within_length p end (n ∷ ns) (place ∷ places) all = omega (arith, within_length p end ns places all.1)

pub erased_within : (p end : ℕ) (ns : List (DeviceNumber × ℕ)) → AreWithin p end ns (erased_places ns)
erased_within p end [] = tt
erased_within p end (n ∷ ns) = (tt, erased_within p end ns)

-- a log that goes on keeps its places
pub further : (p end end' : ℕ) (ns : List (DeviceNumber × ℕ)) (places : List Place) → end ≤ end'
    → AreWithin p end ns places → AreWithin p end' ns places
further p end end' [] [] le all = tt
further p end end' [] (place ∷ places) le all = absurd all
further p end end' (n ∷ ns) [] le all = absurd all
further p end end' (n ∷ ns) (place ∷ places) le all =
    (further_place p end end' n.1 place le all.0, further p end end' ns places le all.1)

-- a record that is taken in lies among the bank's records
pub noted_within : (p end end' : ℕ) (ns : List (DeviceNumber × ℕ)) (places : List Place) (h : RecHead) → 2 ≤ end
    → end + record_pages_of h.length p ≤ end' → AreWithin p end ns places
    → AreWithin p end' ns (noted ns places end h)
noted_within p end end' [] [] h low le all = tt
noted_within p end end' [] (place ∷ places) h low le all = absurd all
noted_within p end end' (n ∷ ns) [] h low le all = absurd all
noted_within p end end' (n ∷ ns) (place ∷ places) h low le all = (
  pick_within p end' n.1 (fits n.0.0 n.1 h) (place_at end h) place
      (λ fit. kind_within p end' n.1 end h.count h.kind (λ content. (low, rw (← fits_length n.0.0 n.1 h fit content) le)))
      (further_place p end end' n.1 place (omega arith) all.0),
  noted_within p end end' ns places h low le all.1,
)

-- what stands at an index lies among them
pub index_within : (p end : ℕ) (ns : List (DeviceNumber × ℕ)) (places : List Place) (i : ℕ) (x : DeviceNumber × ℕ)
    → AreWithin p end ns places → slice_get ns i ≡ Some x → IsWithin p end x.1 (or_else Unwritten (slice_get places i))
index_within p end [] places i x within is = cc
index_within p end (n ∷ ns) [] i x within is = absurd within
index_within p end (n ∷ ns) (place ∷ places) zero x within is =
    let e : n ≡ x = cc in
    subst (λ (y : DeviceNumber × ℕ). IsWithin p end y.1 place) e within.0
index_within p end (n ∷ ns) (place ∷ places) (suc i) x within is = index_within p end ns places i x within.1 is
