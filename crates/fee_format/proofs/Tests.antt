-- Tests and what they test.
use Rattle.std.specs.Prelude.{◌==◌, ◌&&◌, ◌||◌, nat_lt, nat_le}
use Rattle.std.proofs.Common.{◌≡◌, ◌⊎◌, inl, inr, ◌↔◌, ◌<◌, ◌≤◌, ℕ, Bool, true, false, IsTrue, List, [], ◌∷◌, refl, arith}
use Rattle.std.proofs.lemmas.Bool.{false≢true}
use Rattle.std.proofs.lemmas.Bool.Decides.{nat_tests}
use Rattle.fee_format.specs.Pages.{same_bytes, gate_page}
use Rattle.fee_format.specs.Laws.{GatesCompute}

pub both : (a b : Bool) (A B : Type 0) → IsTrue a ↔ A → IsTrue b ↔ B → IsTrue (a && b) ↔ (A × B)
both true b A B f g = (λ t. (f.0 refl, g.0 t), λ x. g.1 x.1)
both false b A B f g = (λ t. absurd (false≢true t), λ x. f.1 x.0)

pub either : (a b : Bool) (A B : Type 0) → IsTrue a ↔ A → IsTrue b ↔ B → IsTrue (a || b) ↔ (A ⊎ B)
either true b A B f g = (λ t. inl (f.0 refl), λ x. refl)
either false b A B f g = (λ t. inr (g.0 t), λ x. elim x [ inl a ↦ absurd (false≢true (f.1 a)) | inr y ↦ g.1 y ])

pub same : (b : Bool) → IsTrue b ↔ IsTrue b
same b = (λ t. t, λ t. t)

pub lt_is : (m n : ℕ) → IsTrue (nat_lt m n) ↔ (m < n)
lt_is m n = (λ t. grind (arith, nat_tests), λ lt. grind (arith, nat_tests))

pub le_is : (m n : ℕ) → IsTrue (nat_le m n) ↔ (m ≤ n)
le_is m n = (λ t. grind (arith, nat_tests), λ le. grind (arith, nat_tests))

pub eq_is : (m n : ℕ) → IsTrue (m == n) ↔ (m ≡ n)
eq_is m n = (λ t. grind (arith, nat_tests), λ e. grind (arith, nat_tests))

pub bytes_are : (xs ys : List ℕ) → IsTrue (same_bytes xs ys) ↔ (xs ≡ ys)
bytes_are [] [] = (λ t. refl, λ e. refl)
bytes_are [] (y ∷ ys) = (λ t. absurd (false≢true t), λ e. cc e)
bytes_are (x ∷ xs) [] = (λ t. absurd (false≢true t), λ e. cc e)
bytes_are (x ∷ xs) (y ∷ ys) =
    let all = both (x == y) (same_bytes xs ys) (x ≡ y) (xs ≡ ys) (eq_is x y) (bytes_are xs ys) in
    (λ t. let e = all.0 t in cc (e.0, e.1), λ e. all.1 (cc e, cc e))

pub gates_compute : GatesCompute
gates_compute p page = bytes_are page (gate_page p)
