-- What stands for a number in a list that is made for both devices.
use Rattle.std.specs.Prelude.{nat_lt, is_some, ◌==◌}
use Rattle.std.proofs.Common.{◌≡◌, ℕ, Bool, true, false, if◌then◌else◌, List, [], ◌∷◌, map, Some, refl, ap, ◌∙◌, inl, inr, arith}
use Rattle.std.proofs.lemmas.Bool.{cases_Bool}
use Rattle.std.proofs.lemmas.Bool.Decides.{nat_tests}
use Rattle.nv_base.specs.declared.instance.DeviceNumber.{DeviceNumber}
use Rattle.memif.specs.Told.{Figures, Slot, at_number, length_of, no_figures, no_slot, slot_at}
use Rattle.memif_pair.specs.Pair.{with_number, merged, is_second}

-- a map over numbers, at a number that is one of them
pub at_map : {A : Type 0} (none : A) (f : ℕ → A) (ns : List (DeviceNumber × ℕ)) (n : ℕ)
    → at_number none ns (map (λ x. f x.0.0) ns) n ≡ (if is_some (length_of ns n) then f n else none)
at_map none f [] n = refl
at_map none f (x ∷ xs) n = elim (cases_Bool (x.0.0 == n)) [
  | inl same ↦ let e : x.0.0 ≡ n = grind (arith, nat_tests, same) in rw same (ap f e)
  | inr other ↦ rw other (at_map none f xs n)
]

-- a number of the one list or of the other
some_by : (x y : DeviceNumber × ℕ) (ys : List (DeviceNumber × ℕ)) (n : ℕ) → is_some (length_of (with_number x ys) n) ≡ (if x.0.0 == n then true else is_some (length_of ys n))
    → (b : Bool) → is_some (length_of (if b then x ∷ y ∷ ys else y ∷ with_number x ys) n) ≡ (if x.0.0 == n then true else is_some (if y.0.0 == n then Some y.1 else length_of ys n))
some_by x y ys n more true = elim (cases_Bool (x.0.0 == n)) [ inl same ↦ rw same refl | inr other ↦ rw other refl ]
some_by x y ys n more false = elim (cases_Bool (y.0.0 == n)) [
  | inl here ↦ elim (cases_Bool (x.0.0 == n)) [ inl same ↦ rw (here, same) refl | inr other ↦ rw (here, other) refl ]
  | inr there ↦ rw there more
]

some_with : (x : DeviceNumber × ℕ) (ys : List (DeviceNumber × ℕ)) (n : ℕ)
    → is_some (length_of (with_number x ys) n) ≡ (if x.0.0 == n then true else is_some (length_of ys n))
some_with x [] n = elim (cases_Bool (x.0.0 == n)) [ inl same ↦ rw same refl | inr other ↦ rw other refl ]
some_with x (y ∷ ys) n = some_by x y ys n (some_with x ys n) (nat_lt x.0.0 y.0.0)

-- a number of the second device, or of the first
pub merged_length : (fs gs : List (DeviceNumber × ℕ)) (n : ℕ)
    → is_some (length_of (merged fs gs) n) ≡ (if is_second gs n then true else is_some (length_of fs n))
merged_length fs [] n = refl
merged_length fs (x ∷ gs) n = some_with x (merged fs gs) n ∙ elim (cases_Bool (x.0.0 == n)) [
  | inl same ↦ rw same refl
  | inr other ↦ rw other (merged_length fs gs n)
]

none_by : (x : DeviceNumber × ℕ) (xs : List (DeviceNumber × ℕ)) (slots : List Slot) (n : ℕ) (b : Bool) → (x.0.0 == n) ≡ b → is_some (if b then Some x.1 else length_of xs n) ≡ false
    → ((ys : List Slot) → is_some (length_of xs n) ≡ false → slot_at xs ys n ≡ no_slot) → slot_at (x ∷ xs) slots n ≡ no_slot
none_by x xs slots n true is none rest = cc
none_by x xs [] n false is none rest = refl
none_by x xs (y ∷ ys) n false is none rest = rw is (rest ys none)

pub slot_none : (ns : List (DeviceNumber × ℕ)) (slots : List Slot) (n : ℕ) → is_some (length_of ns n) ≡ false → slot_at ns slots n ≡ no_slot
slot_none [] slots n none = refl
slot_none (x ∷ xs) slots n none = none_by x xs slots n (x.0.0 == n) refl none (λ ys rest. slot_none xs ys n rest)

figures_by : (x : DeviceNumber × ℕ) (xs : List (DeviceNumber × ℕ)) (figures : List Figures) (n : ℕ) (b : Bool) → (x.0.0 == n) ≡ b → is_some (if b then Some x.1 else length_of xs n) ≡ false
    → ((ys : List Figures) → is_some (length_of xs n) ≡ false → at_number no_figures xs ys n ≡ no_figures) → at_number no_figures (x ∷ xs) figures n ≡ no_figures
figures_by x xs figures n true is none rest = cc
figures_by x xs [] n false is none rest = refl
figures_by x xs (y ∷ ys) n false is none rest = rw is (rest ys none)

pub figures_none : (ns : List (DeviceNumber × ℕ)) (figures : List Figures) (n : ℕ) → is_some (length_of ns n) ≡ false → at_number no_figures ns figures n ≡ no_figures
figures_none [] figures n none = refl
figures_none (x ∷ xs) figures n none = figures_by x xs figures n (x.0.0 == n) refl none (λ ys rest. figures_none xs ys n rest)

-- a number that isn't the second device's has its length from the first
first_by : (x y : DeviceNumber × ℕ) (ys : List (DeviceNumber × ℕ)) (n : ℕ) → (x.0.0 == n) ≡ false → length_of (with_number x ys) n ≡ length_of ys n
    → (b : Bool) → length_of (if b then x ∷ y ∷ ys else y ∷ with_number x ys) n ≡ (if y.0.0 == n then Some y.1 else length_of ys n)
first_by x y ys n other more true = rw other refl
first_by x y ys n other more false = elim (cases_Bool (y.0.0 == n)) [ inl here ↦ rw here refl | inr there ↦ rw there more ]

pub first_with : (x : DeviceNumber × ℕ) (ys : List (DeviceNumber × ℕ)) (n : ℕ) → (x.0.0 == n) ≡ false → length_of (with_number x ys) n ≡ length_of ys n
first_with x [] n other = rw other refl
first_with x (y ∷ ys) n other = first_by x y ys n other (first_with x ys n other) (nat_lt x.0.0 y.0.0)

no_second : (x : DeviceNumber × ℕ) (gs : List (DeviceNumber × ℕ)) (n : ℕ) (b : Bool) → (x.0.0 == n) ≡ b → is_some (if b then Some x.1 else length_of gs n) ≡ false
    → ((x.0.0 == n) ≡ false) × (is_some (length_of gs n) ≡ false)
no_second x gs n true is none = cc
no_second x gs n false is none = (is, none)

pub merged_first : (fs gs : List (DeviceNumber × ℕ)) (n : ℕ) → is_second gs n ≡ false → length_of (merged fs gs) n ≡ length_of fs n
merged_first fs [] n of = refl
merged_first fs (x ∷ gs) n of =
    let (other, rest) = no_second x gs n (x.0.0 == n) refl of in
    first_with x (merged fs gs) n other ∙ merged_first fs gs n rest
