-- A search among ascending numbers.
use Rattle.std.proofs.Common.{◌≡◌, ◌≢◌, ℕ, zero, suc, ◌+◌, ◌<◌, ◌≤◌, List, [], ◌∷◌, length, get_or, All, MatchOption, take, slice_get, subst, eq-eqb, Option, Some, None, option_map, Result, Ok, Err, refl, sym, ap, add-one, arith}
use Rattle.std.specs.Result.{result_ok}
use Rattle.std.specs.List.Sorted.{IsSearchInRange, IsBinarySearchResult, IsNonDecreasingBy}
use Rattle.std.specs.Ordering.{nat_cmp, ordering_index}
use Rattle.std.proofs.lemmas.Cmp.{ranked}
use Rattle.std.proofs.lemmas.List.Sorted.{IsNonDecreasingBy-from_default}
use Rattle.std.proofs.lemmas.Bool.{ne_eqb}
use Rattle.std.proofs.lemmas.Bool.Decides.{nat_tests}
use Rattle.nv_base.specs.declared.instance.DeviceNumber.{DeviceNumber}
use Rattle.nv_base.specs.Laws.{NumbersAreAbove, NumbersAreInBounds, NumbersHavePlaces, NumbersComeLast}
use Rattle.nv_base.specs.Lengths.{AreLengths, IsPlace, last_or, place_of}

-- all numbers are above the first bound
pub numbers_are_above : NumbersAreAbove
numbers_are_above low [] all i d lt = absurd (omega arith)
numbers_are_above low (n ∷ ns) all zero d lt = all.0
numbers_are_above low (n ∷ ns) all (suc i) d lt = omega (arith, all.0, numbers_are_above n.0.0 ns all.4 i d (omega arith))

-- the numbers ascend
pub ascending : (low : ℕ) (ns : List (DeviceNumber × ℕ)) → AreLengths low ns → (i j : ℕ) (d : DeviceNumber × ℕ) → i < j → j < length ns → (get_or ns i d).0.0 < (get_or ns j d).0.0
ascending low [] all i j d lt within = absurd (omega arith)
ascending low (n ∷ ns) all i zero d lt within = absurd (omega arith)
ascending low (n ∷ ns) all zero (suc j) d lt within = numbers_are_above n.0.0 ns all.4 j d (omega arith)
ascending low (n ∷ ns) all (suc i) (suc j) d lt within = ascending n.0.0 ns all.4 i j d (omega arith) (omega arith)

module _ (low : ℕ) (ns : List (DeviceNumber × ℕ)) (all : AreLengths low ns) (number : ℕ) where
  rising : IsNonDecreasingBy (λ n. ordering_index (nat_cmp n.0.0 number)) ns
  rising = IsNonDecreasingBy-from_default (λ n. ordering_index (nat_cmp n.0.0 number)) ns (record { 0 = 0 }, 0) (λ i j le within.
      let d : DeviceNumber × ℕ = (record { 0 = 0 }, 0) in
      let up : (get_or ns i d).0.0 ≤ (get_or ns j d).0.0 = grind (arith, ascending low ns all i j d, λ (same : i ≡ j). ap (λ (k : ℕ). (get_or ns k d).0.0) same) in
      grind (arith, nat_tests))

  -- what a binary search finds
  pub searched : (r : Result ℕ ℕ) → IsSearchInRange r (length ns) → IsBinarySearchResult (λ n. nat_cmp n.0.0 number) ns r
      → MatchOption (result_ok r) (All (λ n. n.0.0 ≢ number) ns) (IsPlace ns number)
  searched (Ok at) within equal = record { within = within; is = λ d. ranked _ number _ (sym (equal d)) }
  searched (Err at) within parted = λ j d lt same. grind (arith, λ (before : j < at). ranked _ number _ (sym ((parted rising).0 j d (omega arith) before)), λ (after : at ≤ j). ranked _ number _ (sym ((parted rising).1 j d after lt)))

-- a number has one place
pub place_is : (low : ℕ) (ns : List (DeviceNumber × ℕ)) (number i : ℕ) → AreLengths low ns → IsPlace ns number i → place_of ns number ≡ Some i
place_is low [] number i all place = absurd (omega (arith, place.within))
place_is low (n ∷ ns) number zero all place = let same : n.0.0 ≡ number = place.is n in grind (arith, nat_tests)
place_is low (n ∷ ns) number (suc i) all place =
    let rest : IsPlace ns number i = record { within = omega (arith, place.within); is = λ d. place.is d } in
    let differs : n.0.0 ≢ number = λ same. (let more : n.0.0 < (get_or ns i n).0.0 = numbers_are_above n.0.0 ns all.4 i n rest.within in omega (arith, rest.is n)) in
    let one : option_map (λ (place : ℕ). place + 1) (place_of ns number) ≡ Some (suc i) = rw (place_is n.0.0 ns number i all.4 rest) (ap (λ (k : ℕ). Some k) (add-one i)) in
    grind (arith, nat_tests)

pub place_is_none : (ns : List (DeviceNumber × ℕ)) (number : ℕ) → All (λ n. n.0.0 ≢ number) ns → place_of ns number ≡ None
place_is_none [] number none = refl
place_is_none (n ∷ ns) number none =
    let differs : n.0.0 ≢ number = none 0 n (omega arith) in
    let rest : option_map (λ (place : ℕ). place + 1) (place_of ns number) ≡ None = rw (place_is_none ns number (λ k d lt. none (suc k) d (omega arith))) refl in
    grind (arith, nat_tests)

-- so what a search finds is the place
pub found_place : (low : ℕ) (ns : List (DeviceNumber × ℕ)) (number : ℕ) (r : Option ℕ) → AreLengths low ns → MatchOption r (All (λ n. n.0.0 ≢ number) ns) (IsPlace ns number) → r ≡ place_of ns number
found_place low ns number None all none = sym (place_is_none ns number none)
found_place low ns number (Some i) all place = sym (place_is low ns number i all place)

-- what stands at an index
pub numbers_are_in_bounds : NumbersAreInBounds
numbers_are_in_bounds low [] i x all is = cc
numbers_are_in_bounds low (n ∷ ns) zero x all is =
    let e : n ≡ x = cc in subst (λ (y : DeviceNumber × ℕ). (low < y.0.0) × (y.0.0 < 65535) × (1 ≤ y.1) × (y.1 ≤ 4096)) e (all.0, all.1, all.2, all.3)
numbers_are_in_bounds low (n ∷ ns) (suc i) x all is =
    let r = numbers_are_in_bounds n.0.0 ns i x all.4 is in (omega (arith, all.0, r.0), r.1, r.2, r.3)

-- has its place there
pub numbers_have_places : NumbersHavePlaces
numbers_have_places low [] i x all is = cc
numbers_have_places low (n ∷ ns) zero x all is = let e : n ≡ x = cc in rw (← e, eq-eqb n.0.0 n.0.0 refl) refl
numbers_have_places low (n ∷ ns) (suc i) x all is =
    let up = numbers_are_in_bounds n.0.0 ns i x all.4 is in
    rw (ne_eqb n.0.0 x.0.0 (λ e. omega (arith, up.0)), numbers_have_places n.0.0 ns i x all.4 is, add-one) refl

-- and comes behind all before it
come : (low : ℕ) (ns : List (DeviceNumber × ℕ)) (i : ℕ) (x : DeviceNumber × ℕ) → AreLengths low ns → slice_get ns i ≡ Some x
    → (last_or low (take i ns) < x.0.0) × (last_or low (take (suc i) ns) ≡ x.0.0)
come low [] i x all is = cc
come low (n ∷ ns) zero x all is =
    let e : n ≡ x = cc in subst (λ (y : DeviceNumber × ℕ). (low < y.0.0) × (n.0.0 ≡ y.0.0)) e (all.0, refl)
come low (n ∷ ns) (suc i) x all is = come n.0.0 ns i x all.4 is

pub numbers_come_last : NumbersComeLast
numbers_come_last low ns i x all is = rw add-one (come low ns i x all is)
