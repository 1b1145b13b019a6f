-- Pages of numbers, and their flags.
use Rattle.std.proofs.Common.{◌≡◌, ◌≤◌, ◌+◌, ◌-◌, ◌*◌, ◌/◌, ℕ, zero, suc, Bool, true, false, List, [], ◌∷◌, length, set, Some, refl, ap, ◌∙◌, subst, arith}
use Rattle.std.specs.Prelude.{◌==◌, if◌then◌else◌, slice_get}
use Rattle.std.proofs.lemmas.Bool.{eq-eqb, ne_eqb}
use Rattle.std.proofs.lemmas.Nat.{div-mul-add}
use Rattle.std.proofs.lemmas.Option.{slice_get-get_or}
use Rattle.nv_base.specs.declared.instance.DeviceNumber.{DeviceNumber}
use Rattle.nv_base.specs.Lengths.{AreLengths}
use Rattle.nv_base.specs.Pages.{record_pages_of}
use Rattle.nv_base.proofs.Places.{numbers_are_in_bounds}
use Rattle.fee_format.specs.declared.rec_head.RecHead.{RecHead}
use Rattle.fee_format.specs.declared.rec_head.RecordKind.{RecordKind}
use Rattle.fee_format.specs.declared.rec_head.RecordKind.TheVariants as kind
use Rattle.fee_log.specs.Index.{with_flag, clear_flags}
use Rattle.fee_log.specs.Log.{IsLengthFor, IsFor}
use Rattle.fee_course.specs.Copies.{greatest}
use Rattle.fee_switch_laws.specs.Space.{all_pages}
use Rattle.fee_switch_laws.specs.KeepsRoom.{uncopied_pages}
use Rattle.fee_switch_laws.specs.RoomLaws.{ClearFlagsStay}

-- SUMS
-- a flag that is cleared adds its number's pages at most
pub cleared_adds : (p : ℕ) (ns : List (DeviceNumber × ℕ)) (cs : List Bool) (i : ℕ) (n : DeviceNumber × ℕ) → slice_get ns i ≡ Some n
    → uncopied_pages p ns (set cs i false) ≤ uncopied_pages p ns cs + record_pages_of n.1 p
cleared_adds p [] cs i n is = omega arith
cleared_adds p (m ∷ ns) [] zero n is = omega arith
cleared_adds p (m ∷ ns) [] (suc i) n is = omega arith
cleared_adds p (m ∷ ns) (c ∷ cs) zero n is =
    let same : m ≡ n = cc in
    let e : record_pages_of m.1 p ≡ record_pages_of n.1 p = ap (λ (y : DeviceNumber × ℕ). record_pages_of y.1 p) same in
    omega (arith, e)
cleared_adds p (m ∷ ns) (c ∷ cs) (suc i) n is = omega (arith, cleared_adds p ns cs i n is)

-- and one that is set takes them off
pub set_takes : (p : ℕ) (ns : List (DeviceNumber × ℕ)) (cs : List Bool) (i : ℕ) (n : DeviceNumber × ℕ) → slice_get ns i ≡ Some n → slice_get cs i ≡ Some false
    → uncopied_pages p ns (set cs i true) + record_pages_of n.1 p ≤ uncopied_pages p ns cs
set_takes p [] cs i n is clear = cc
set_takes p (m ∷ ns) [] i n is clear = cc
set_takes p (m ∷ ns) (true ∷ cs) zero n is clear = cc
set_takes p (m ∷ ns) (false ∷ cs) zero n is clear =
    let same : m ≡ n = cc in
    let e : record_pages_of m.1 p ≡ record_pages_of n.1 p = ap (λ (y : DeviceNumber × ℕ). record_pages_of y.1 p) same in
    omega (arith, e)
set_takes p (m ∷ ns) (c ∷ cs) (suc i) n is clear = omega (arith, set_takes p ns cs i n is clear)

pub clear_is_all : (p : ℕ) (ns : List (DeviceNumber × ℕ)) → uncopied_pages p ns (clear_flags ns) ≡ all_pages p ns
clear_is_all p [] = refl
clear_is_all p (n ∷ ns) = ap (λ (t : ℕ). record_pages_of n.1 p + t) (clear_is_all p ns)

-- THE GREATEST
pub among_greatest : (p : ℕ) (ns : List (DeviceNumber × ℕ)) (i : ℕ) (n : DeviceNumber × ℕ) → slice_get ns i ≡ Some n → record_pages_of n.1 p ≤ greatest p ns
among_greatest p [] i n is = cc
among_greatest p (m ∷ ns) zero n is =
    let same : m ≡ n = cc in
    let e : record_pages_of m.1 p ≡ record_pages_of n.1 p = ap (λ (y : DeviceNumber × ℕ). record_pages_of y.1 p) same in
    omega (arith, e)
among_greatest p (m ∷ ns) (suc i) n is = omega (arith, among_greatest p ns i n is)

-- a mark has no more pages than a content
pub mark_pages : (p length : ℕ) → 16 ≤ p → record_pages_of 0 p ≤ record_pages_of length p
mark_pages p length low =
    let e = div-mul-add 0 p (p - 1) (omega arith) in
    let f : 0 * p + (p - 1) ≡ 0 + (p - 1) = omega arith in
    let g : (0 + (p - 1)) / p ≡ 0 = subst (λ (x : ℕ). x / p ≡ 0) f e in
    omega (arith, g)

-- where the number of a record stands
pub record IsAt (ns : List (DeviceNumber × ℕ)) (number length : ℕ) : Type 0 where
  pub index : ℕ
  pub is : slice_get ns index ≡ Some (record { 0 = number }, length)

pub at_number : (ns : List (DeviceNumber × ℕ)) (h : RecHead) (for : IsFor ns h) → IsAt ns h.number.0 for.length
at_number ns h for =
    let x : DeviceNumber × ℕ = (h.number, for.length) in
    record { index = for.configured.0; is = slice_get-get_or ns for.configured.0 x for.configured.1 ∙ ap Some for.configured.2 }

pub record_pages : (p : ℕ) (ns : List (DeviceNumber × ℕ)) (h : RecHead) (for : IsFor ns h) → 16 ≤ p → record_pages_of h.length p ≤ record_pages_of for.length p
record_pages p ns h for low = few h.kind h.length for.kind
  where
    none : (got : ℕ) → got ≡ 0 → record_pages_of got p ≤ record_pages_of for.length p
    none got is = let e : record_pages_of got p ≡ record_pages_of 0 p = ap (λ (n : ℕ). record_pages_of n p) is in omega (arith, e, mark_pages p for.length low)

    few : (k : RecordKind) (got : ℕ) → IsLengthFor k got for.length → record_pages_of got p ≤ record_pages_of for.length p
    few kind.Content got is = let e : record_pages_of got p ≡ record_pages_of for.length p = ap (λ (n : ℕ). record_pages_of n p) is in omega (arith, e)
    few kind.Invalid got is = none got is
    few kind.Erased got is = none got is

pub few_pages : (p : ℕ) (ns : List (DeviceNumber × ℕ)) (h : RecHead) → IsFor ns h → 16 ≤ p → record_pages_of h.length p ≤ greatest p ns
few_pages p ns h for low =
    let at = at_number ns h for in
    omega (arith, record_pages p ns h for low, among_greatest p ns at.index (h.number, for.length) at.is)

-- FLAGS
-- no flag is that of a number below all
pub flags_above : (number low : ℕ) (ns : List (DeviceNumber × ℕ)) (cs : List Bool) (on : Bool) → AreLengths low ns → number ≤ low → with_flag ns cs number on ≡ cs
flags_above number low [] cs on all le = refl
flags_above number low (n ∷ ns) [] on all le = refl
flags_above number low (n ∷ ns) (c ∷ cs) on all le =
    let lt = all.0 in
    rw (ne_eqb n.0.0 number (λ e. omega arith)) (ap (λ (l : List Bool). c ∷ l) (flags_above number n.0.0 ns cs on all.4 (omega arith)))

-- the flag of a number is the one at its place
pub flag_at : (low : ℕ) (ns : List (DeviceNumber × ℕ)) (cs : List Bool) (i : ℕ) (n : DeviceNumber × ℕ) (on : Bool) → AreLengths low ns → slice_get ns i ≡ Some n
    → with_flag ns cs n.0.0 on ≡ set cs i on
flag_at low [] cs i n on all is = cc
flag_at low (m ∷ ns) [] i n on all is = refl
flag_at low (m ∷ ns) (c ∷ cs) zero n on all is =
    let same : m ≡ n = cc in
    subst (λ (x : DeviceNumber × ℕ). with_flag (m ∷ ns) (c ∷ cs) x.0.0 on ≡ on ∷ cs) same
    (rw (eq-eqb m.0.0 m.0.0 refl) (ap (λ (l : List Bool). on ∷ l) (flags_above m.0.0 m.0.0 ns cs on all.4 (omega arith))))
flag_at low (m ∷ ns) (c ∷ cs) (suc i) n on all is =
    let lt = (numbers_are_in_bounds m.0.0 ns i n all.4 is).0 in
    rw (ne_eqb m.0.0 n.0.0 (λ e. omega arith)) (ap (λ (l : List Bool). c ∷ l) (flag_at m.0.0 ns cs i n on all.4 is))

-- where none is set, none is cleared
kept_clear : (b : Bool) → (if b then false else false) ≡ false
kept_clear true = refl
kept_clear false = refl

pub clear_flags_stay : ClearFlagsStay
clear_flags_stay [] number = refl
clear_flags_stay (n ∷ ns) number = rw (kept_clear (n.0.0 == number)) (ap (λ (l : List Bool). false ∷ l) (clear_flags_stay ns number))
