-- What pays for a history, on another count and with an entry more.
use Rattle.std.specs.List.{Contains}
use Rattle.std.proofs.Common.{◌≡◌, ℕ, ◌≤◌, ◌-◌, Bool, List, [], ◌∷◌, ◌++◌, suc, refl, Some, inl, inr, arith}
use Rattle.block_machine.specs.nv_base.Count.{WereCounted}
use Rattle.block_machine.specs.nv_base.Entry.{ops_of}
use Rattle.block_machine.specs.Words.{Entry, Ask, Pick, Wrote, Post, Off, Found, Configuration}
use Rattle.block_machine.specs.State.{State}
use Rattle.block_machine.specs.StartUp.{at_first}
use Rattle.block_machine.specs.Steps.{step, after_from}
use Rattle.promise_blocks.specs.Payment.{Worn, IsExcused, ArePaid, IsPaid, price_for}
use Rattle.promise_blocks.specs.OverDevice.{TellsAtMost}

pub first_of : {A : Type 0} (x : A) (xs : List A) → Contains (x ∷ xs) x
first_of x xs = (0, omega arith, refl)

pub tells_rest : (n : ℕ) (e : Entry) (es : List Entry) → TellsAtMost n (e ∷ es) → TellsAtMost n es
tells_rest n e es tells x ops (k, within, is) = tells x ops (suc k, omega (arith, within), is)

-- where it was worn by then it stays so
module _ (of : ℕ → Bool) (c : Configuration) (worn other : Worn) (bound : ℕ) (more : (k n : ℕ) (urgent : Bool) → k ≤ bound → worn k n urgent → other k n urgent) where
  excused_on : (s : State) (e : Entry) → ((ops : ℕ) → ops_of e ≡ Some ops → ops ≤ bound) → IsExcused c worn s e → IsExcused c other s e
  excused_on s (Post block r given refused ops) tells (j, hand, some, was) =
      let early : ops ≤ bound = tells ops refl in (
        j,
        hand,
        some,
        record {
          index = was.index;
          failed = was.failed;
          moment = was.moment;
          by_then =
              was.by_then;
          is = more was.moment _ _ (omega (arith, was.by_then, early)) was.is;
        },
      )
  excused_on s (Ask caller r reply) tells none = none
  excused_on s (Pick block kind t ops) tells none = none
  excused_on s (Wrote i mark ops) tells none = none
  excused_on s (Off ops) tells none = none
  excused_on s (Found marks ops) tells none = none

  pub paid_on : (n : ℕ) (s : State) (es : List Entry) → TellsAtMost bound es → ArePaid of c worn n s es → ArePaid of c other n s es
  paid_on n s [] tells paid = tt
  paid_on n s (e ∷ es) tells (inl (cheap, rest)) = inl
      (cheap, paid_on (n - price_for of c s e) (step c s e) es (tells_rest bound e es tells) rest)
  paid_on n s (e ∷ es) tells (inr (excused, rest)) =
      inr (excused_on s e (λ ops is. tells e ops (first_of e es) is) excused, paid_on n (step c s e) es (tells_rest bound e es tells) rest)

  pub pays_on : (before now new : ℕ) (h : List Entry) → now ≤ new → TellsAtMost bound h → IsPaid of c worn before now h
      → IsPaid of c other before new h
  pays_on before now new h grows tells paid = record {
    faults = paid.faults;
    counted = counted paid.counted;
    pay = paid_on paid.faults at_first h tells paid.pay;
  }
    where
      counted : WereCounted paid.faults before now → WereCounted paid.faults before new
      counted (inl few) = inl (omega (arith, few, grows))
      counted (inr full) = inr (omega (arith, full, grows))

-- an entry without a price
pub no_price : (of : ℕ → Bool) (c : Configuration) (worn : Worn) (n : ℕ) (s : State) (es : List Entry) (e : Entry)
    → price_for of c (after_from c s es) e ≡ 0 → ArePaid of c worn n s es → ArePaid of c worn n s (es ++ e ∷ [])
no_price of c worn n s [] e free paid = inl (omega (arith, free), tt)
no_price of c worn n s (x ∷ es) e free (inl (cheap, rest)) = inl
    (cheap, no_price of c worn (n - price_for of c s x) (step c s x) es e free rest)
no_price of c worn n s (x ∷ es) e free (inr (excused, rest)) = inr (excused, no_price of c worn n (step c s x) es e free rest)

pub pays_free : (of : ℕ → Bool) (c : Configuration) (worn : Worn) (before now : ℕ) (h : List Entry) (e : Entry)
    → price_for of c (after_from c at_first h) e ≡ 0 → IsPaid of c worn before now h → IsPaid of c worn before now (h ++ e ∷ [])
pays_free of c worn before now h e free paid =
    record { faults = paid.faults; counted = paid.counted; pay = no_price of c worn paid.faults at_first h e free paid.pay }
