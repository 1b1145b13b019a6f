-- What a Post costs, where faults pay for a history with it as they paid for the history and for so many more.
use Rattle.std.proofs.Common.{◌≡◌, ◌<◌, ◌≤◌, ◌+◌, ◌-◌, ◌⊎◌, ℕ, zero, suc, Bool, List, [], ◌∷◌, ◌++◌, sym, subst, inl, inr, arith}
use Rattle.std.proofs.lemmas.Bool.Decides.{leb_tells}
use Rattle.nvm_laws.specs.nv_base.Count.{last_count}
use Rattle.nvm_laws.specs.block_machine.Words.{Entry, Ask, Pick, Wrote, Post, Off, Found, Configuration}
use Rattle.nvm_laws.specs.block_machine.State.{State}
use Rattle.nvm_laws.specs.block_machine.StartUp.{at_first}
use Rattle.nvm_laws.specs.block_machine.Steps.{step, after_from}
use Rattle.nvm_laws.specs.promise_blocks.Payment.{Worn, IsExcused, price_for, ArePaid, IsPaid}

-- AN ENTRY MORE
-- what is paid with it was paid before, and the rest is its own
split : (of : ℕ → Bool) (c : Configuration) (worn : Worn) (n : ℕ) (s : State) (h : List Entry) (e : Entry) → ArePaid of c worn n s (h ++ e ∷ [])
    → (m : ℕ) × (m ≤ n) × ArePaid of c worn m s h × ((price_for of c (after_from c s h) e ≤ n - m) ⊎ IsExcused c worn (after_from c s h) e)
split of c worn n s [] e (inl (fits, rest)) = (0, omega arith, tt, inl (omega (arith, fits)))
split of c worn n s [] e (inr (excused, rest)) = (0, omega arith, tt, inr excused)
split of c worn n s (x ∷ h) e (inl (fits, rest)) =
    let (m, few, own, last) = split of c worn (n - price_for of c s x) (step c s x) h e rest in
    let same : price_for of c s x + m - price_for of c s x ≡ m = omega arith in (
      price_for of c s x + m,
      omega (arith, fits, few),
      inl (omega arith, subst (λ (k : ℕ). ArePaid of c worn k (step c s x) h) (sym same) own),
      elim last [ inl cheap ↦ inl (omega (arith, cheap)) | inr excused ↦ inr excused ],
    )
split of c worn n s (x ∷ h) e (inr (excused, rest)) =
    let (m, few, own, last) = split of c worn n (step c s x) h e rest in (m, few, inr (excused, own), last)

-- WHERE IT WAS WORN OUT
module _ (c : Configuration) (worn other : Worn) (same : (k n : ℕ) (urgent : Bool) → worn k n urgent → other k n urgent) where
  pub excused_as : (s : State) (e : Entry) → IsExcused c worn s e → IsExcused c other s e
  excused_as s (Post block r given refused ops) (j, hand, some, was) =
      (j, hand, some, record { index = was.index; failed = was.failed; moment = was.moment; by_then = was.by_then; is = same was.moment _ _ was.is })
  excused_as s (Ask caller r reply) excused = absurd excused
  excused_as s (Pick block kind t ops) excused = absurd excused
  excused_as s (Wrote i mark ops) excused = absurd excused
  excused_as s (Off ops) excused = absurd excused
  excused_as s (Found marks ops) excused = absurd excused

  pub paid_as : (of : ℕ → Bool) (n : ℕ) (s : State) (h : List Entry) → ArePaid of c worn n s h → ArePaid of c other n s h
  paid_as of n s [] paid = tt
  paid_as of n s (e ∷ h) (inl (fits, rest)) = inl (fits, paid_as of (n - price_for of c s e) (step c s e) h rest)
  paid_as of n s (e ∷ h) (inr (excused, rest)) = inr (excused_as s e excused, paid_as of n (step c s e) h rest)

-- THE PRICE
-- Whatever the count before was: where it left so many faults beside those that pay for a history, the history with one
-- entry more is paid. So the entry costs no more than these, or it is excused.
module _ (of : ℕ → Bool) (c : Configuration) (worn other : Worn) (same : (k n : ℕ) (urgent : Bool) → other k n urgent → worn k n urgent) (h : List Entry) (e : Entry) (slack now : ℕ)
    (few : now < last_count) (pays : (before m : ℕ) → before + (m + slack) ≤ now → ArePaid of c worn m at_first h → IsPaid of c other before now (h ++ e ∷ [])) where
  abbrev Costs : Type 0
  Costs = (price_for of c (after_from c at_first h) e ≤ slack) ⊎ IsExcused c other (after_from c at_first h) e

  -- the least that pays for the history is found by trying less
  by_less : (fuel m : ℕ) → m < fuel → m + slack ≤ now → ArePaid of c worn m at_first h → Costs
  by_less zero m more within paid = absurd (omega (arith, more))
  by_less (suc fuel) m more within paid =
      let all = pays (now - (m + slack)) m (omega (arith, within)) paid in
      let (k, fewer, own, last) = split of c other all.faults at_first h e all.pay in
      elim last [
        | inr excused ↦ inr excused
        | inl cheap ↦ elim all.counted [
          | inr full ↦ absurd (omega (arith, full, few))
          | inl most ↦ elim (leb_tells m k) [
            | inl as_many ↦ let up = as_many.1 in inl (omega (arith, cheap, most, up, within))
            | inr less ↦ let down = less.1 in by_less fuel k (omega (arith, down, more)) (omega (arith, down, within)) (paid_as c other worn same of k at_first h own)
          ]
        ]
      ]

  pub costs : (m : ℕ) → m + slack ≤ now → ArePaid of c worn m at_first h → Costs
  costs m within paid = by_less (m + 1) m (omega arith) within paid
