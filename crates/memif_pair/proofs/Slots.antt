-- What a fact on the slots of each device says of the pair's.
use Rattle.std.specs.Prelude.{◌==◌}
use Rattle.std.proofs.Common.{◌≡◌, ℕ, Bool, true, false, if◌then◌else◌, List, Option, Some, None, refl, sym, ap, ◌∙◌, subst, inl, inr, arith}
use Rattle.std.proofs.lemmas.Bool.{cases_Bool}
use Rattle.std.proofs.lemmas.Bool.Decides.{nat_tests}
use Rattle.memif.specs.Told.{Fixed, Slot, slot_at}
use Rattle.memif.specs.Marks.{IfTold}
use Rattle.memif_pair.specs.Pair.{slots_both, is_second, numbers_in, in_both, listed_in}
use Rattle.memif_pair.proofs.Ticking.{slot_is}

-- each number's is its own device's
pub each_two : (P : ℕ → Slot → Slot → Type 0) (f g : Fixed) (s u t v : Option (List Slot))
    → IfTold s u (λ x y. (n : ℕ) → is_second g.numbers n ≡ false → P n (slot_at f.numbers x n) (slot_at f.numbers y n))
    → IfTold t v (λ x y. (n : ℕ) → is_second g.numbers n ≡ true → P n (slot_at g.numbers x n) (slot_at g.numbers y n))
    → IfTold (slots_both f g s t) (slots_both f g u v) (λ x y. (n : ℕ) → P n (slot_at (numbers_in f g) x n) (slot_at (numbers_in f g) y n))
each_two P f g s None t v one two = tt
each_two P f g None (Some u) t v one two = absurd one
each_two P f g (Some s) (Some u) t None one two = tt
each_two P f g (Some s) (Some u) None (Some v) one two = absurd two
each_two P f g (Some s) (Some u) (Some t) (Some v) one two = λ n.
    subst (λ (x : Slot). P n x (slot_at (numbers_in f g) (listed_in f g (slot_at f.numbers u) (slot_at g.numbers v)) n)) (sym (slot_is f g s t n))
    (subst (λ (y : Slot). P n (in_both g (slot_at f.numbers s) (slot_at g.numbers t) n) y) (sym (slot_is f g u v n))
    (by n (is_second g.numbers n) refl))
  where
    by : (n : ℕ) (b : Bool) → is_second g.numbers n ≡ b → P n (if b then slot_at g.numbers t n else slot_at f.numbers s n) (if b then slot_at g.numbers v n else slot_at f.numbers u n)
    by n true of = two n of
    by n false of = one n of

-- a device whose slots stay
pub each_stays : (P : ℕ → Slot → Slot → Type 0) (g : Fixed) (second : Bool) (t : Option (List Slot)) → ((n : ℕ) (x : Slot) → is_second g.numbers n ≡ second → P n x x)
    → (slots : Fixed) → IfTold t t (λ x y. (n : ℕ) → is_second g.numbers n ≡ second → P n (slot_at slots.numbers x n) (slot_at slots.numbers y n))
each_stays P g second None self slots = tt
each_stays P g second (Some t) self slots = λ n of. self n (slot_at slots.numbers t n) of

-- a fact on each number is one on each of one device
pub each_own : (P : ℕ → Slot → Slot → Type 0) (g slots : Fixed) (second : Bool) (s u : Option (List Slot)) → IfTold s u (λ x y. (n : ℕ) → P n (slot_at slots.numbers x n) (slot_at slots.numbers y n))
    → IfTold s u (λ x y. (n : ℕ) → is_second g.numbers n ≡ second → P n (slot_at slots.numbers x n) (slot_at slots.numbers y n))
each_own P g slots second s None each = tt
each_own P g slots second None (Some u) each = absurd each
each_own P g slots second (Some s) (Some u) each = λ n of. each n

-- a number of the one device isn't this one of the other
pub other_number : (g : Fixed) (number n : ℕ) (p q : Bool) → is_second g.numbers number ≡ p → is_second g.numbers n ≡ q → (p ≡ q → ⊥) → (n == number) ≡ false
other_number g number n p q of is apart = elim (cases_Bool (n == number)) [
  | inr off ↦ off
  | inl on ↦ (let same : n ≡ number = grind (arith, nat_tests, on) in absurd (apart (sym of ∙ (ap (is_second g.numbers) (sym same) ∙ is))))
]
