-- What is excused and paid stays so where a device is worn out for more.
use Rattle.std.specs.Prelude.{IfSome}
use Rattle.std.proofs.Common.{ℕ, Bool, List, [], ◌∷◌, Option, Some, None, if◌then◌else◌, inl, inr}
use Rattle.block_machine.specs.Words.{Entry, Ask, Pick, Wrote, Post, Off, Found, Configuration}
use Rattle.block_machine.specs.State.{State}
use Rattle.block_machine.specs.Steps.{after_from}
use Rattle.promise_blocks.specs.Payment.{Worn, IsExcused}
use Rattle.promise_run.specs.Turns.{Moment, Move, entry_list, is_picked, ArePaidSince}

pub excused_too : (c : Configuration) (worn other : Worn) (s : State) (e : Entry) → ((k n : ℕ) (urgent : Bool) → worn k n urgent → other k n urgent) → IsExcused c worn s e → IsExcused c other s e
excused_too c worn other s (Post block r given refused ops) more (j, hand, some, was) =
    (j, hand, some, record { index = was.index; failed = was.failed; moment = was.moment; by_then = was.by_then; is = more was.moment _ _ was.is })
excused_too c worn other s (Ask caller r reply) more none = none
excused_too c worn other s (Pick block kind t ops) more none = none
excused_too c worn other s (Wrote i mark ops) more none = none
excused_too c worn other s (Off ops) more none = none
excused_too c worn other s (Found marks ops) more none = none

module _ (c : Configuration) (worn other : Worn) (more : (k n : ℕ) (urgent : Bool) → worn k n urgent → other k n urgent) where
  if_excused : (s : State) (o : Option Entry) → IfSome o (IsExcused c worn s) → IfSome o (IsExcused c other s)
  if_excused s None excused = tt
  if_excused s (Some e) excused = excused_too c worn other s e more excused

  pub since_too : (since : ℕ) (before : Moment) (s : State) (ms : List Move) → ArePaidSince c worn since before s ms → ArePaidSince c other since before s ms
  since_too since before s [] paid = tt
  since_too since before s (m ∷ ms) (here, rest) = (
    elim here [ inl counted ↦ inl counted | inr excused ↦ inr (if_excused s m.entry excused) ],
    since_too (if is_picked m.entry then before.faults else since) m.behind (after_from c s (entry_list m.entry)) ms rest,
  )
