-- Lists of places.
use Rattle.std.specs.Prelude.{◌==◌}
use Rattle.std.proofs.Common.{◌≡◌, ℕ, zero, suc, ◌+◌, ◌<◌, true, false, List, [], ◌∷◌, map, length, get_or, slice_get, set, Option, Some, None, IfSome, refl, sym, ap, ◌∙◌, subst, inl, inr, arith, add-one}
use Rattle.std.proofs.lemmas.Bool.{cases_Bool}
use Rattle.std.proofs.lemmas.Bool.Decides.{nat_tests}
use Rattle.block_machine.specs.nv_base.Lengths.{AreLengths}
use Rattle.block_machine.specs.nv_base.declared.instance.DeviceNumber.{DeviceNumber}
use Rattle.memif.specs.Told.{DeviceTold, Held, Slot, Fixed, slot_at, length_of}
use Rattle.memif.specs.Marks.{Keeps, KeepsAll, IfTold}
use Rattle.nv_recorder.specs.declared.found_marks.FoundPlace.{FoundPlace}
use Rattle.nv_recorder.specs.Event.{mark_of}
use Rattle.nv_recorder.specs.declared.event.MarkKind.{MarkKind}
use Rattle.nv_recorder.specs.declared.event.MarkKind.TheVariants as kind
use Rattle.nv_recorder.specs.FoundMarks.{number_at, mark_at, with_mark}
use Rattle.nv_recorder.proofs.FoundPlaces.{held_number, numbers_set}
use Rattle.nvm_found.specs.Places.{IsHeldIn, FirstHeldIn, IsHeld, FirstHeld, HoldsMark}

-- ONE AT AN INDEX
above_at : (low : ℕ) (ps : List FoundPlace) (i : ℕ) (d : FoundPlace) → i < length ps → AreLengths low (map number_at ps) → low < (get_or ps i d).number.0
above_at low [] i d few ascend = absurd (omega (arith, few))
above_at low (p ∷ ps) zero d few ascend = ascend.0
above_at low (p ∷ ps) (suc i) d few ascend = let more = above_at p.number.0 ps i d (omega (arith, few)) ascend.4 in omega (arith, more, ascend.0)

pub own_test : (n : ℕ) → (n == n) ≡ true
own_test n = grind (arith, nat_tests)

other_test : (a b : ℕ) → a < b → (a == b) ≡ false
other_test a b less = elim (cases_Bool (a == b)) [
  | inr off ↦ off
  | inl on ↦ let same : a ≡ b = grind (arith, nat_tests) in absurd (omega (arith, same, less))
]

-- each place's number is configured with its length
pub configured_at : (low : ℕ) (ps : List FoundPlace) (i : ℕ) (d : FoundPlace) → i < length ps → AreLengths low (map number_at ps)
    → length_of (map number_at ps) (get_or ps i d).number.0 ≡ Some (get_or ps i d).length
configured_at low [] i d few ascend = absurd (omega (arith, few))
configured_at low (p ∷ ps) zero d few ascend = rw (own_test p.number.0) refl
configured_at low (p ∷ ps) (suc i) d few ascend =
    let other = other_test p.number.0 (get_or ps i d).number.0 (above_at p.number.0 ps i d (omega (arith, few)) ascend.4) in
    rw other (configured_at p.number.0 ps i d (omega (arith, few)) ascend.4)

-- WHAT IS HELD
held_set : (numbers : List (DeviceNumber × ℕ)) (slots : List Slot) (ps : List FoundPlace) (i : ℕ) (p : FoundPlace) → i < length ps
    → FirstHeldIn numbers slots i ps → IsHeldIn numbers slots p → FirstHeldIn numbers slots (suc i) (set ps i p)
held_set numbers slots [] i p few held one = absurd (omega (arith, few))
held_set numbers slots (q ∷ ps) zero p few held one = (one, tt)
held_set numbers slots (q ∷ ps) (suc i) p few held one = (held.0, held_set numbers slots ps i p (omega (arith, few)) held.1 one)

set_told : (numbers : List (DeviceNumber × ℕ)) (o : Option (List Slot)) (ps : List FoundPlace) (i : ℕ) (p : FoundPlace) → i < length ps
    → IfSome o (λ slots. FirstHeldIn numbers slots i ps) → IfSome o (λ slots. IsHeldIn numbers slots p)
    → IfSome o (λ slots. FirstHeldIn numbers slots (suc i) (set ps i p))
set_told numbers (Some slots) ps i p few held one = held_set numbers slots ps i p few held one
set_told numbers None ps i p few held one = tt

pub first_set : (d : DeviceTold) (ps : List FoundPlace) (i : ℕ) (p : FoundPlace) → i < length ps → FirstHeld d i ps → IsHeld d p
    → FirstHeld d (i + 1) (set ps i p)
first_set d ps i p few held one = subst (λ (n : ℕ). FirstHeld d n (set ps i p)) (sym (add-one i)) (set_told d.fixed.numbers d.slots ps i p few held one)

-- reads leave what is held
first_kept : (numbers : List (DeviceNumber × ℕ)) (u v : List Slot) (i : ℕ) (ps : List FoundPlace)
    → ((k : ℕ) → Keeps (slot_at numbers u k) (slot_at numbers v k)) → FirstHeldIn numbers u i ps → FirstHeldIn numbers v i ps
first_kept numbers u v zero ps each held = tt
first_kept numbers u v (suc i) [] each held = tt
first_kept numbers u v (suc i) (p ∷ ps) each held = (
  held.0 ∙ ap (λ (h : Held). h.mark) (sym (each p.number.0).settled),
  first_kept numbers u v i ps each held.1,
)

after_told : (numbers : List (DeviceNumber × ℕ)) (o n : Option (List Slot)) (i : ℕ) (ps : List FoundPlace)
    → IfTold o n (λ u v. (k : ℕ) → Keeps (slot_at numbers u k) (slot_at numbers v k))
    → IfSome o (λ slots. FirstHeldIn numbers slots i ps) → IfSome n (λ slots. FirstHeldIn numbers slots i ps)
after_told numbers (Some u) (Some v) i ps each held = first_kept numbers u v i ps each held
after_told numbers None (Some v) i ps each held = absurd each
after_told numbers o None i ps each held = tt

pub first_after : (a b : DeviceTold) (i : ℕ) (ps : List FoundPlace) → b.fixed ≡ a.fixed → KeepsAll a b → FirstHeld a i ps → FirstHeld b i ps
first_after a b i ps fixed each held =
    subst (λ (f : Fixed). IfSome b.slots (λ slots. FirstHeldIn f.numbers slots i ps)) (sym fixed) (after_told a.fixed.numbers a.slots b.slots i ps each held)

-- a place that holds the mark that was found
held_mark : (k : MarkKind) (bytes : List ℕ) (p : FoundPlace) → mark_at (with_mark k bytes p) ≡ mark_of k (Some bytes)
held_mark kind.Content bytes p = refl
held_mark kind.Invalid bytes p = refl
held_mark kind.Erased bytes p = refl

held_by : (numbers : List (DeviceNumber × ℕ)) (o : Option (List Slot)) (k : MarkKind) (bytes : List ℕ) (p : FoundPlace)
    → IfSome o (λ slots. mark_of k (Some bytes) ≡ (slot_at numbers slots p.number.0).settled.mark)
    → IfSome o (λ slots. IsHeldIn numbers slots (with_mark k bytes p))
held_by numbers (Some slots) k bytes p is =
    held_mark k bytes p ∙ is ∙ ap (λ (n : DeviceNumber × ℕ). (slot_at numbers slots n.0.0).settled.mark) (sym (held_number k bytes p))
held_by numbers None k bytes p is = tt

pub place_got : (ps : List FoundPlace) (i : ℕ) (p d : FoundPlace) → slice_get ps i ≡ Some p → get_or ps i d ≡ p
place_got [] i p d is = absurd (cc is)
place_got (q ∷ ps) zero p d is = cc is
place_got (q ∷ ps) (suc i) p d is = place_got ps i p d is

-- one place more holds what was found
pub first_found : (a b : DeviceTold) (ps : List FoundPlace) (i : ℕ) (k : MarkKind) (bytes : List ℕ) (p : FoundPlace) → i < length ps → b.fixed ≡ a.fixed → KeepsAll a b
    → slice_get ps i ≡ Some p → HoldsMark b p.number.0 (mark_of k (Some bytes)) → FirstHeld a i ps → FirstHeld b (i + 1) (set ps i (with_mark k bytes (get_or ps i p)))
first_found a b ps i k bytes p few fixed each is one held =
    rw (place_got ps i p p is) (first_set b ps i (with_mark k bytes p) few (first_after a b i ps fixed each held) (held_by b.fixed.numbers b.slots k bytes p one))

-- and the numbers are as before
pub found_numbers : (ps : List FoundPlace) (i : ℕ) (k : MarkKind) (bytes : List ℕ) (d : FoundPlace) → i < length ps
    → map number_at (set ps i (with_mark k bytes (get_or ps i d))) ≡ map number_at ps
found_numbers ps i k bytes d few = numbers_set ps i (with_mark k bytes (get_or ps i d)) d few (held_number k bytes (get_or ps i d))

-- the number of a place is configured with its length
pub place_configured : (ps : List FoundPlace) (numbers : List (DeviceNumber × ℕ)) (i : ℕ) (p : FoundPlace) → map number_at ps ≡ numbers
    → AreLengths 0 (map number_at ps) → i < length ps → slice_get ps i ≡ Some p → length_of numbers p.number.0 ≡ Some p.length
place_configured ps numbers i p is ascend few got =
    subst (λ (q : FoundPlace). length_of numbers q.number.0 ≡ Some q.length) (place_got ps i p p got)
    (subst (λ ns. length_of ns (get_or ps i p).number.0 ≡ Some (get_or ps i p).length) is (configured_at 0 ps i p few ascend))
