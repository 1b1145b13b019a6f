-- The requests of a caller, by the numbers of their entries.
use Rattle.std.specs.Prelude.{◌==◌}
use Rattle.std.proofs.Common.{◌≡◌, ◌≢◌, ◌⊎◌, inl, inr, ℕ, zero, suc, ◌+◌, ◌<◌, ◌≤◌, Bool, true, false, if◌then◌else◌, List, [], ◌∷◌, refl, sym, ap, ◌∙◌, subst, arith, eqb-true, eqb}
use Rattle.std.proofs.lemmas.Bool.{eqb-false}
use Rattle.std.proofs.lemmas.Bool.Decides.{eqb_tells}
use mathlib.Core.Option.{some, some-ne-none, some-injective}
use lib.ListN.{get_elem?}
use Rattle.nvm_core.specs.block_machine.Words.{Request, Reply, Entry, Ask, Pick, Wrote, Post, Off, Found}
use Rattle.nvm_core.specs.block_laws.Consistent.{Each, Ascend}
use Rattle.turn_gate.specs.Pass.{Has}
use Rattle.script_walks.specs.Callers.{asks_of}
use Rattle.nvm_shared.specs.Numbers.{AreAt, AsksByNumber}

-- entry k of a list that begins with the number n
abbrev IsAt : ℕ → List Entry → ℕ → Entry → Type 0
IsAt n es k e = (i : ℕ) × (k ≡ n + i) × (get_elem? es i ≡ some e)

module _ (caller : ℕ) where
  abbrev AreFrom : ℕ → List Entry → List ℕ → List Request → Type 0
  AreFrom n es [] [] = Unit {0}
  AreFrom n es (k ∷ ks) (r ∷ rs) = ((reply : Reply) × IsAt n es k (Ask caller r reply)) × AreFrom n es ks rs
  AreFrom n es ks rs = ⊥

  abbrev AllFrom : ℕ → List Entry → List ℕ → Type 0
  AllFrom n es ks = (k : ℕ) (r : Request) (reply : Reply) → IsAt n es k (Ask caller r reply) → Has ks k

  -- an entry that is none of its requests is passed by
  abbrev IsOther : Entry → Type 0
  IsOther e = (r : Request) (reply : Reply) → e ≢ Ask caller r reply

  skips : (e : Entry) (es : List Entry) → IsOther e → asks_of caller (e ∷ es) ≡ asks_of caller es
  skips (Ask who r reply) es other = by (who == caller) refl
    where
      by : (b : Bool) → (who == caller) ≡ b → (if b then r ∷ asks_of caller es else asks_of caller es) ≡ asks_of caller es
      by true is = absurd (other r reply (ap (λ (n : ℕ). Ask n r reply) (eqb-true who caller is)))
      by false is = refl
  skips (Pick block kind t ops) es other = refl
  skips (Wrote i mark ops) es other = refl
  skips (Post block r given refused ops) es other = refl
  skips (Off ops) es other = refl
  skips (Found marks ops) es other = refl

  takes : (r : Request) (reply : Reply) (es : List Entry) → asks_of caller (Ask caller r reply ∷ es) ≡ r ∷ asks_of caller es
  takes r reply es = by (caller == caller) refl
    where
      by : (b : Bool) → (caller == caller) ≡ b → (if b then r ∷ asks_of caller es else asks_of caller es) ≡ r ∷ asks_of caller es
      by true is = refl
      by false is = absurd (eqb-false caller caller is refl)

  -- numbers beyond the first are of the rest
  beyond : (n k : ℕ) (e : Entry) (es : List Entry) (x : Entry) → n < k → IsAt n (e ∷ es) k x → IsAt (n + 1) es k x
  beyond n k e es x more (zero, is, at) = absurd (omega (arith, more, is))
  beyond n k e es x more (suc i, is, at) = (i, omega (arith, is), at)

  back : (n k : ℕ) (e : Entry) (es : List Entry) (x : Entry) → IsAt (n + 1) es k x → IsAt n (e ∷ es) k x
  back n k e es x (i, is, at) = (suc i, omega (arith, is), at)

  are_beyond : (n : ℕ) (e : Entry) (es : List Entry) (ks : List ℕ) (rs : List Request) → Each (λ k. n < k) ks → AreFrom n (e ∷ es) ks rs → AreFrom (n + 1) es ks rs
  are_beyond n e es [] [] more are = tt
  are_beyond n e es (k ∷ ks) (r ∷ rs) more are = ((are.0.0, beyond n k e es (Ask caller r are.0.0) more.0 are.0.1), are_beyond n e es ks rs more.1 are.1)
  are_beyond n e es [] (r ∷ rs) more are = absurd are
  are_beyond n e es (k ∷ ks) [] more are = absurd are

  above : (n k : ℕ) (ks : List ℕ) → n < k → Each (λ m. k < m) ks → Each (λ m. n < m) ks
  above n k [] low each = tt
  above n k (m ∷ ms) low each = (omega (arith, low, each.0), above n k ms low each.1)

  none_has : (n : ℕ) (ks : List ℕ) → Each (λ k. n < k) ks → Has ks n → ⊥
  none_has n [] each (i, at) = some-ne-none n (sym at)
  none_has n (k ∷ ks) each (zero, at) = let same : k ≡ n = some-injective k n at in absurd (omega (arith, each.0, same))
  none_has n (k ∷ ks) each (suc i, at) = none_has n ks each.1 (i, at)

  other_has : (k m : ℕ) (ks : List ℕ) → m ≢ k → Has (k ∷ ks) m → Has ks m
  other_has k m ks not (zero, at) = absurd (not (sym (some-injective k m at)))
  other_has k m ks not (suc i, at) = (i, at)

  next_low : (n : ℕ) (ms : List ℕ) → Each (λ m. n < m) ms → Each (λ m. n + 1 ≤ m) ms
  next_low n [] each = tt
  next_low n (m ∷ ms) each = (omega (arith, each.0), next_low n ms each.1)

  is_first : (n k : ℕ) (e x : Entry) (es : List Entry) → k ≡ n → IsAt n (e ∷ es) k x → e ≡ x
  is_first n k e x es here (zero, is, at) = some-injective e x at
  is_first n k e x es here (suc i, is, at) = absurd (omega (arith, is, here))

  -- what is left to show of the entries behind the first
  abbrev Walks : ℕ → List Entry → Type 0
  Walks n es = (ks : List ℕ) (rs : List Request) → Each (λ k. n ≤ k) ks → Ascend ks → AreFrom n es ks rs → AllFrom n es ks → asks_of caller es ≡ rs

  at_first : (n k : ℕ) (e : Entry) (es : List Entry) (ks : List ℕ) (r : Request) (rs : List Request) → k ≡ n → Ascend (k ∷ ks) → AreFrom n (e ∷ es) (k ∷ ks) (r ∷ rs)
      → AllFrom n (e ∷ es) (k ∷ ks) → Walks (n + 1) es → asks_of caller (e ∷ es) ≡ r ∷ rs
  at_first n k e es ks r rs here ascend are all rest =
      let more : Each (λ j. n < j) ks = subst (λ (m : ℕ). Each (λ j. m < j) ks) here ascend.0 in
      ap (λ (x : Entry). asks_of caller (x ∷ es)) (is_first n k e (Ask caller r are.0.0) es here are.0.1)
      ∙ takes r are.0.0 es
      ∙ ap (λ (l : List Request). r ∷ l) (rest ks rs (next_low n ks more) ascend.1 (are_beyond n e es ks rs more are.1)
      (λ m q reply at. other_has k m ks (λ same. absurd (omega (arith, same, here, at.1))) (all m q reply (back n m e es (Ask caller q reply) at))))

  behind_first : (n k : ℕ) (e : Entry) (es : List Entry) (ks : List ℕ) (r : Request) (rs : List Request) → n < k → Ascend (k ∷ ks) → AreFrom n (e ∷ es) (k ∷ ks) (r ∷ rs)
      → AllFrom n (e ∷ es) (k ∷ ks) → Walks (n + 1) es → asks_of caller (e ∷ es) ≡ r ∷ rs
  behind_first n k e es ks r rs less ascend are all rest =
      let more : Each (λ m. n < m) (k ∷ ks) = (less, above n k ks less ascend.0) in
      skips e es (λ q reply is. none_has n (k ∷ ks) more (all n q reply (zero, omega arith, ap some is)))
      ∙ rest (k ∷ ks) (r ∷ rs) (next_low n (k ∷ ks) more) ascend (are_beyond n e es (k ∷ ks) (r ∷ rs) more are)
      (λ m q reply at. all m q reply (back n m e es (Ask caller q reply) at))

  either_place : (n k : ℕ) → n ≤ k → (k ≡ n) ⊎ (n < k)
  either_place n k low = by (eqb_tells k n)
    where
      by : ((eqb k n ≡ true) × (k ≡ n)) ⊎ ((eqb k n ≡ false) × (k ≢ n)) → (k ≡ n) ⊎ (n < k)
      by (inl (on, here)) = inl here
      by (inr (off, apart)) = inr (grind (arith, low, apart))

  walk : (es : List Entry) (n : ℕ) → Walks n es
  walk [] n [] [] low ascend are all = refl
  walk [] n [] (r ∷ rs) low ascend are all = absurd are
  walk [] n (k ∷ ks) [] low ascend are all = absurd are
  walk [] n (k ∷ ks) (r ∷ rs) low ascend are all = absurd (some-ne-none _ (sym are.0.1.2))
  walk (e ∷ es) n [] rs low ascend are all =
      skips e es (λ r reply is. none_has n [] tt (all n r reply (zero, omega arith, ap some is)))
      ∙ walk es (n + 1) [] rs tt tt (are_beyond n e es [] rs tt are) (λ k r reply at. all k r reply (back n k e es (Ask caller r reply) at))
  walk (e ∷ es) n (k ∷ ks) [] low ascend are all = absurd are
  walk (e ∷ es) n (k ∷ ks) (r ∷ rs) low ascend are all = elim (either_place n k low.0) [
    | inl here ↦ at_first n k e es ks r rs here ascend are all (walk es (n + 1))
    | inr less ↦ behind_first n k e es ks r rs less ascend are all (walk es (n + 1))
  ]

-- FROM THE FIRST ENTRY ON
at_from : (h : List Entry) (caller : ℕ) (ks : List ℕ) (rs : List Request) → AreAt h caller ks rs → AreFrom caller 0 h ks rs
at_from h caller [] [] are = tt
at_from h caller (k ∷ ks) (r ∷ rs) are = ((are.0.0, (k, omega arith, are.0.1)), at_from h caller ks rs are.1)
at_from h caller [] (r ∷ rs) are = absurd are
at_from h caller (k ∷ ks) [] are = absurd are

from_first : (ks : List ℕ) → Each (λ k. 0 ≤ k) ks
from_first [] = tt
from_first (k ∷ ks) = (omega arith, from_first ks)

pub asks_by_number : AsksByNumber
asks_by_number h caller ks rs are =
    walk caller h 0 ks rs (from_first ks) are.ascend (at_from h caller ks rs are.at)
    (λ k r reply at. are.all k r reply (let here : at.0 ≡ k = omega (arith, at.1) in subst (λ (i : ℕ). get_elem? h i ≡ some (Ask caller r reply)) here at.2))
