-- What is found in a list.
use Rattle.std.specs.Prelude.{slice_get, find}
use Rattle.std.proofs.Common.{◌≡◌, ◌<◌, ℕ, zero, suc, Bool, true, false, List, [], ◌∷◌, take, inl, inr, refl, arith, Some, None}
use Rattle.std.proofs.lemmas.Bool.{cases_Bool}
use Rattle.std.proofs.lemmas.Option.{slice_get_within}

pub some_is : {X : Type 0} (x y : X) → Some x ≡ Some y → x ≡ y
some_is x y e = cc

-- the first that passes a test stands behind those that don't
pub found_there : {X : Type 0} (p : X → Bool) (xs : List X) (k : ℕ) (x : X) → slice_get xs k ≡ Some x → find p (take k xs) ≡ None → p x ≡ true
    → find p xs ≡ Some x
found_there p [] k x at none is = absurd (omega (arith, slice_get_within [] k x at))
found_there p (y ∷ xs) zero x at none is = let same : y ≡ x = some_is y x at in rw (same, is) refl
found_there p (y ∷ xs) (suc k) x at none is = elim (cases_Bool (p y)) [
  | inl on ↦ let no_ : Some y ≡ None = rw on at none in cc
  | inr off ↦ rw off (found_there p xs k x at (rw off at none) is)
]

-- one more that doesn't
pub none_more : {X : Type 0} (p : X → Bool) (xs : List X) (k : ℕ) (x : X) → slice_get xs k ≡ Some x → find p (take k xs) ≡ None → p x ≡ false
    → find p (take (suc k) xs) ≡ None
none_more p [] k x at none is = absurd (omega (arith, slice_get_within [] k x at))
none_more p (y ∷ xs) zero x at none is = let same : y ≡ x = some_is y x at in rw (same, is) refl
none_more p (y ∷ xs) (suc k) x at none is = elim (cases_Bool (p y)) [
  | inl on ↦ let no_ : Some y ≡ None = rw on at none in cc
  | inr off ↦ rw off (none_more p xs k x at (rw off at none) is)
]

-- what stands before a place is among those up to there
pub taken_at : {X : Type 0} (xs : List X) (n k : ℕ) (x : X) → k < n → slice_get xs k ≡ Some x → slice_get (take n xs) k ≡ Some x
taken_at [] n k x less at = absurd (omega (arith, slice_get_within [] k x at))
taken_at (y ∷ xs) zero k x less at = absurd (omega (arith, less))
taken_at (y ∷ xs) (suc n) zero x less at = at
taken_at (y ∷ xs) (suc n) (suc k) x less at = taken_at xs n k x (omega (arith, less)) at
