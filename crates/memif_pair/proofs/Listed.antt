-- Two devices that are made one: each number has its length in the pair too.
use Rattle.std.specs.Prelude.{nat_lt, is_some, not, ◌==◌, ◌&&◌}
use Rattle.std.proofs.Common.{◌≡◌, ℕ, ◌≤◌, Bool, true, false, if◌then◌else◌, List, [], ◌∷◌, Option, Some, None, refl, sym, ap, ◌∙◌, subst, inl, inr, arith}
use Rattle.std.proofs.lemmas.Bool.{cases_Bool}
use Rattle.std.proofs.lemmas.Bool.Decides.{nat_tests}
use Rattle.nv_base.specs.declared.instance.DeviceNumber.{DeviceNumber}
use Rattle.nv_base.specs.Lengths.{AreLengths}
use Rattle.memif.specs.Told.{DeviceTold, is_open, length_of}
use Rattle.memif_pair.specs.Pair.{with_number, merged, is_second}
use Rattle.memif_pair.specs.Both.{ArePaired, IsBoth}
use Rattle.memif_pair.proofs.Numbers.{first_with, merged_length}
use Rattle.memif_pair.proofs.Together.{no_own}

-- a number that is put into a list without it
here_by : (x y : DeviceNumber × ℕ) (ys : List (DeviceNumber × ℕ)) (n : ℕ) → (x.0.0 == n) ≡ true → (y.0.0 == n) ≡ false → length_of (with_number x ys) n ≡ Some x.1
    → (b : Bool) → length_of (if b then x ∷ y ∷ ys else y ∷ with_number x ys) n ≡ Some x.1
here_by x y ys n same other more true = rw same refl
here_by x y ys n same other more false = rw other more

not_head : (y : DeviceNumber × ℕ) (ys : List (DeviceNumber × ℕ)) (n : ℕ) (b : Bool) → (y.0.0 == n) ≡ b → is_some (if b then Some y.1 else length_of ys n) ≡ false → ((y.0.0 == n) ≡ false) × (is_some (length_of ys n) ≡ false)
not_head y ys n true is none = cc none
not_head y ys n false is none = (is, none)

here_with : (x : DeviceNumber × ℕ) (ys : List (DeviceNumber × ℕ)) (n : ℕ) → (x.0.0 == n) ≡ true → is_some (length_of ys n) ≡ false → length_of (with_number x ys) n ≡ Some x.1
here_with x [] n same none = rw same refl
here_with x (y ∷ ys) n same none =
    let (other, rest) = not_head y ys n (y.0.0 == n) refl none in
    here_by x y ys n same other (here_with x ys n same rest) (nat_lt x.0.0 y.0.0)

none_of : {A : Type 0} (o : Option A) → o ≡ None → is_some o ≡ false
none_of o none = ap is_some none

-- a list that ascends above a number is without it
none_below : (low : ℕ) (gs : List (DeviceNumber × ℕ)) (n : ℕ) → AreLengths low gs → n ≤ low → is_second gs n ≡ false
none_below low [] n ascends le = refl
none_below low (x ∷ gs) n ascends le = elim (cases_Bool (x.0.0 == n)) [
  | inl same ↦ (let e : x.0.0 ≡ n = grind (arith, nat_tests, same) in let above = ascends.0 in absurd (omega (arith, e, above, le)))
  | inr other ↦ (let above = ascends.0 in rw other (none_below x.0.0 gs n ascends.4 (omega (arith, above, le))))
]

not_in : (x : DeviceNumber × ℕ) (gs : List (DeviceNumber × ℕ)) (n : ℕ) → (x.0.0 == n) ≡ true → AreLengths x.0.0 gs → is_second gs n ≡ false
not_in x gs n same ascends = let e : x.0.0 ≡ n = grind (arith, nat_tests, same) in none_below x.0.0 gs n ascends (omega (arith, e))

-- a number of the tail is one of the list
in_tail : (x : DeviceNumber × ℕ) (gs : List (DeviceNumber × ℕ)) (n : ℕ) (b : Bool) → is_some (length_of gs n) ≡ true → is_some (if b then Some x.1 else length_of gs n) ≡ true
in_tail x gs n true in_it = refl
in_tail x gs n false in_it = in_it

pub lengths_are : (fs : List (DeviceNumber × ℕ)) (low : ℕ) (gs : List (DeviceNumber × ℕ)) → ((n : ℕ) → is_second gs n ≡ true → length_of fs n ≡ None) → AreLengths low gs → (n : ℕ) → is_second gs n ≡ true → length_of (merged fs gs) n ≡ length_of gs n
lengths_are fs low [] apart ascends n in_it = cc in_it
lengths_are fs low (x ∷ gs) apart ascends n in_it = by (x.0.0 == n) refl (lengths_are fs x.0.0 gs (λ k there. apart k (in_tail x gs k (x.0.0 == k) there)) ascends.4 n)
  where
    neither : (x.0.0 == n) ≡ true → is_some (length_of (merged fs gs) n) ≡ false
    neither same = merged_length fs gs n ∙ (ap (λ (b : Bool). if b then true else is_some (length_of fs n)) (not_in x gs n same ascends.4) ∙ none_of (length_of fs n) (apart n in_it))

    by : (b : Bool) → (x.0.0 == n) ≡ b → (is_second gs n ≡ true → length_of (merged fs gs) n ≡ length_of gs n) → length_of (with_number x (merged fs gs)) n ≡ length_of (x ∷ gs) n
    by true same rest = here_with x (merged fs gs) n same (neither same) ∙ rw same refl
    by false other rest =
        let tail : is_second gs n ≡ true = subst (λ (b : Bool). is_some (if b then Some x.1 else length_of gs n) ≡ true) other in_it in
        first_with x (merged fs gs) n other ∙ (rest tail ∙ rw other refl)

-- MADE OF TWO
closed_by : (o s : Bool) → (not o && not s) ≡ true → o ≡ false
closed_by true s nothing = cc nothing
closed_by false s nothing = refl

pub made_both : (a b : DeviceTold) → ArePaired a b → IsBoth a b false []
made_both a b paired =
    let closed_a : is_open a.stand ≡ false = closed_by (is_open a.stand) a.switching paired.first.rests in
    let closed_b : is_open b.stand ≡ false = closed_by (is_open b.stand) b.switching paired.second.rests in
    record {
      together = record {
        pair = paired.pair;
        counted = record { first = sym paired.first.ops; second = sym paired.second.ops };
        one = record { first = λ on. refl; second = λ on. absurd (let wrong : true ≡ false = sym on ∙ closed_b in cc wrong) };
        part = paired.part;
        lengths = lengths_are a.fixed.numbers 0 b.fixed.numbers paired.pair.apart paired.ascend;
        own = paired.own;
        first_job = no_own false b a.stand closed_a;
        second_job = no_own true b b.stand closed_b;
      };
      up = λ some. absurd (let wrong : true ≡ false = sym paired.first.rests ∙ some in cc wrong);
    }
