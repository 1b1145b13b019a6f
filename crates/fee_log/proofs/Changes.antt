-- Places and flags after a change at a number.
use Rattle.std.specs.Prelude.{if◌then◌else◌}
use Rattle.std.proofs.Common.{◌≡◌, ◌≢◌, ℕ, zero, suc, ◌<◌, Bool, true, false, List, [], ◌∷◌, length, get_or, set, All, replicate, refl, sym, ap, arith}
use Rattle.std.proofs.lemmas.Bool.{ne_eqb}
use Rattle.std.proofs.lemmas.Bool.Decides.{nat_tests}
use Rattle.nv_base.specs.declared.instance.DeviceNumber.{DeviceNumber}
use Rattle.nv_base.specs.Lengths.{AreLengths}
use Rattle.fee_format.specs.declared.rec_head.RecHead.{RecHead}
use Rattle.fee_image.specs.Found.{fits}
use Rattle.fee_image.specs.declared.place.Place.{Place}
use Rattle.fee_image.specs.declared.place.Place.TheVariants.{Unwritten}
use Rattle.fee_image.specs.Places.{place_at, noted, erased_places}
use Rattle.fee_log.specs.Index.{with_flag, clear_flags}
use Rattle.nv_base.proofs.Places.{numbers_are_above}

-- nothing is found of any number, and no flag is set
pub erased : (ns : List (DeviceNumber × ℕ)) → replicate (length ns) Unwritten ≡ erased_places ns
erased [] = refl
erased (n ∷ ns) = ap (λ (l : List Place). Unwritten ∷ l) (erased ns)

pub clear : (ns : List (DeviceNumber × ℕ)) → replicate (length ns) false ≡ clear_flags ns
clear [] = refl
clear (n ∷ ns) = ap (λ (l : List Bool). false ∷ l) (clear ns)

pub clear_length : (ns : List (DeviceNumber × ℕ)) → length (clear_flags ns) ≡ length ns
clear_length [] = refl
clear_length (n ∷ ns) = ap suc (clear_length ns)

pub flag_length : (ns : List (DeviceNumber × ℕ)) (flags : List Bool) (number : ℕ) (on : Bool)
    → length (with_flag ns flags number on) ≡ length flags
flag_length [] flags number on = refl
flag_length (n ∷ ns) [] number on = refl
flag_length (n ∷ ns) (flag ∷ flags) number on = ap suc (flag_length ns flags number on)

module _ {A : Type 0} where
  pick_cons : (b : Bool) (x y : A) (l : List A) → (if b then x else y) ∷ l ≡ (if b then x ∷ l else y ∷ l)
  pick_cons true x y l = refl
  pick_cons false x y l = refl

  cons_pick : (b : Bool) (x : A) (xs ys : List A) → x ∷ (if b then xs else ys) ≡ (if b then x ∷ xs else x ∷ ys)
  cons_pick true x xs ys = refl
  cons_pick false x xs ys = refl

-- PLACES
-- a record of another number changes nothing
not_fits : (number length : ℕ) (h : RecHead) → h.number.0 ≢ number → fits number length h ≡ false
not_fits number length h differs = rw (ne_eqb h.number.0 number differs) refl

pub noted_none : (ns : List (DeviceNumber × ℕ)) (places : List Place) (at : ℕ) (h : RecHead)
    → All (λ n. n.0.0 ≢ h.number.0) ns → places ≡ noted ns places at h
noted_none [] places at h none = refl
noted_none (n ∷ ns) [] at h none = refl
noted_none (n ∷ ns) (place ∷ places) at h none =
    rw (not_fits n.0.0 n.1 h (λ e. none 0 n (omega arith) (sym e)))
    (ap (λ (l : List Place). place ∷ l) (noted_none ns places at h (λ k d lt. none (suc k) d (omega arith))))

-- a record of the number at an index changes its place, where it fits
noted_at : (low : ℕ) (ns : List (DeviceNumber × ℕ)) (places : List Place) (at : ℕ) (h : RecHead) (i : ℕ) (d : DeviceNumber × ℕ)
    → AreLengths low ns → length places ≡ length ns → i < length ns
    → ((n : DeviceNumber × ℕ) → (get_or ns i n).0.0 ≡ h.number.0)
    → noted ns places at h ≡ (if fits (get_or ns i d).0.0 (get_or ns i d).1 h then set places i (place_at at h) else places)
noted_at low [] places at h i d all each lt is = absurd (omega arith)
noted_at low (n ∷ ns) [] at h i d all each lt is = absurd (omega arith)
noted_at low (n ∷ ns) (place ∷ places) at h zero d all each lt is =
    rw (← noted_none ns places at h (λ k e within same. omega (arith, numbers_are_above n.0.0 ns all.4 k e within, is n)))
    (pick_cons (fits n.0.0 n.1 h) (place_at at h) place places)
noted_at low (n ∷ ns) (place ∷ places) at h (suc i) d all each lt is =
    rw (
      not_fits n.0.0 n.1 h (λ e. omega (arith, numbers_are_above n.0.0 ns all.4 i n (omega arith), is n)),
      noted_at n.0.0 ns
          places at h i d all.4 (omega arith) (omega arith) is,
    )
    (cons_pick (fits (get_or ns i d).0.0 (get_or ns i d).1 h) place (set places i (place_at at h)) places)

-- by what was found of them
pub noted_by : (ns list : List (DeviceNumber × ℕ)) (places : List Place) (at : ℕ) (h : RecHead) (i : ℕ) (ok : Bool)
    → AreLengths 0 ns → length places ≡ length ns → i < length ns → ((n : DeviceNumber × ℕ) → (get_or ns i n).0.0 ≡ h.number.0)
    → list ≡ ns → (let d : DeviceNumber × ℕ = (record { 0 = 0 }, 0) in ok ≡ fits (get_or list i d).0.0 (get_or list i d).1 h)
    → noted ns places at h ≡ (if ok then set places i (place_at at h) else places)
noted_by ns list places at h i ok all each lt is same fit = rw (fit, same) (noted_at 0 ns places at h i (record { 0 = 0 }, 0) all each lt is)

-- FLAGS
pub flags_none : (ns : List (DeviceNumber × ℕ)) (flags : List Bool) (number : ℕ) (on : Bool)
    → All (λ n. n.0.0 ≢ number) ns → flags ≡ with_flag ns flags number on
flags_none [] flags number on none = refl
flags_none (n ∷ ns) [] number on none = refl
flags_none (n ∷ ns) (flag ∷ flags) number on none =
    rw (ne_eqb n.0.0 number (none 0 n (omega arith)))
    (ap (λ (l : List Bool). flag ∷ l) (flags_none ns flags number on (λ k d lt. none (suc k) d (omega arith))))

pub flags_at : (low : ℕ) (ns : List (DeviceNumber × ℕ)) (flags : List Bool) (number : ℕ) (on : Bool) (i : ℕ)
    → AreLengths low ns → length flags ≡ length ns → i < length ns
    → ((n : DeviceNumber × ℕ) → (get_or ns i n).0.0 ≡ number) → set flags i on ≡ with_flag ns flags number on
flags_at low [] flags number on i all each lt is = absurd (omega arith)
flags_at low (n ∷ ns) [] number on i all each lt is = absurd (omega arith)
flags_at low (n ∷ ns) (flag ∷ flags) number on zero all each lt is =
    rw (← flags_none ns flags number on (λ k e within same. omega (arith, numbers_are_above n.0.0 ns all.4 k e within, is n)))
    grind (arith, nat_tests, is n)
flags_at low (n ∷ ns) (flag ∷ flags) number on (suc i) all each lt is =
    rw (ne_eqb n.0.0 number (λ e. omega (arith, numbers_are_above n.0.0 ns all.4 i n (omega arith), is n)))
    (ap (λ (l : List Bool). flag ∷ l) (flags_at n.0.0 ns flags number on i all.4 (omega arith) (omega arith) is))
