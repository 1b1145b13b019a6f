-- How many copies are to be refused, from try to try.
use Rattle.std.proofs.Common.{◌≡◌, ◌<◌, ℕ, ◌+◌, ◌-◌, Bool, true, false, refl, sym, ap, ◌∙◌, subst, arith, Option, Some, None, IfSome, option_map}
use Rattle.std.proofs.lemmas.Bool.{le-leb, lt-leb}
use Rattle.ram_blocks.specs.Tries.{Spends}

pub spends_none : (o : Option ℕ) → Spends true 0 o o
spends_none None = (tt, refl)
spends_none (Some n) = (sym (le-leb 0 n (omega arith)), ap Some (omega arith))

-- a try was refused
pub spends_refused : (all : Bool) (i : ℕ) (a b : Option ℕ) → Spends all i a b → IfSome b (λ k. 0 < k) → (c : Option ℕ) → c ≡ option_map (λ k. k - 1) b
    → Spends all (i + 1) a c
spends_refused all i None b h some c is = (tt, is ∙ ap (option_map (λ (k : ℕ). k - 1)) h.1)
spends_refused all i (Some n) b h some c is =
    let left : 0 < n - i = subst (λ (o : Option ℕ). IfSome o (λ k. 0 < k)) h.1 some in (
      h.0 ∙ le-leb i n (omega (arith, left)) ∙ sym (le-leb (i + 1) n (omega (arith, left))),
      is ∙ ap (option_map (λ (k : ℕ). k - 1)) h.1 ∙ ap Some (omega arith),
    )

-- a copy was made, within so many tries
pub spends_made : (all : Bool) (i tries : ℕ) (a b : Option ℕ) → Spends all i a b → IfSome b (λ k. k ≡ 0) → i < tries → (c : Option ℕ) → c ≡ b
    → Spends false tries a c
spends_made all i tries None b h none below c is = (tt, is ∙ h.1)
spends_made all i tries (Some n) b h none below c is =
    let left : n - i ≡ 0 = subst (λ (o : Option ℕ). IfSome o (λ k. k ≡ 0)) h.1 none in (
      sym (lt-leb tries n (omega (arith, left, below))),
      is ∙ h.1 ∙ ap Some (omega (arith, left, below)),
    )
