-- Why requests fail in a history in which nothing fails.
use Rattle.std.specs.Prelude.{◌≡◌, ◌⊎◌, ℕ, true, false, List, [], ◌∷◌, ◌++◌, Some, Ok}
use Rattle.uds_gateway.specs.block_machine.Words.{Instance, Mark, Request, Entry, Post, Found, Configuration}
use Rattle.uds_gateway.specs.block_machine.State.{State}
use Rattle.uds_gateway.specs.block_machine.Blocks.{asked_block}
use Rattle.uds_gateway.specs.block_machine.Steps.{after, after_from}
use Rattle.uds_gateway.specs.block_machine.Legal.{IsLegal}
use Rattle.uds_gateway.specs.promise_blocks.Payment.{Worn, IsExcused}
use Rattle.uds_gateway.specs.script_walks.Walk.{joined}
use Rattle.promise_device.specs.Bridge.{IsWornOut}
use Rattle.uds_gateway.specs.promise_run.Completeness.{PostWell}
use Rattle.uds_gateway.specs.promise_run.Promise.{making_of}
use Rattle.uds_gateway.specs.promise_run.Run.{Run}
use Rattle.uds_gateway.specs.declared.code.NegativeCode.TheVariants.{ConditionsNotCorrect, ProgrammingFailure}
use Rattle.uds_gateway.specs.Services.{asked_by}
use Rattle.uds_gateway.specs.Answers.{negative, uds}
use Rattle.uds_gateway.specs.Jobs.{IsRefused, EndsPosted}
use Rattle.uds_gateway.specs.Served.{AreServed}
use Rattle.uds_gateway.specs.Codes.{is_read}
use Rattle.uds_gateway.specs.Causes.{HasNoContent, before_end}

-- a read found a mark that gives nothing before its Post
abbrev pub FoundNoContent : Configuration → State → Request → List Entry → Type 0
FoundNoContent c s asked piece = (p : EndsPosted asked piece) × HasNoContent c (before_end c s asked p.ends.way) (asked_block asked)

-- at the Post of a write the device was worn out for an instance that it didn't write
abbrev pub WasWornOut : Configuration → Worn → State → Request → List Entry → Type 0
WasWornOut c worn s asked piece =
    (p : EndsPosted asked piece) × IsExcused c worn (before_end c s asked p.ends.way) (Post (asked_block asked) p.result p.given p.refused p.ops)

-- In a state, by what it asks for and its entries: why it answers 22 and 72.
pub record HasCauses (c : Configuration) (worn : Worn) (s : State) (request : List ℕ) (piece : List Entry) : Type 0 where
  pub conditions : uds c request piece ≡ Some (negative request ConditionsNotCorrect)
      → (asked : Request) × (asked_by c request ≡ Ok asked) × (IsRefused asked piece ⊎ ((is_read asked ≡ true) × FoundNoContent c s asked piece))
  pub programming : uds c request piece ≡ Some (negative request ProgrammingFailure)
      → (asked : Request) × (asked_by c request ≡ Ok asked) × (is_read asked ≡ false) × WasWornOut c worn s asked piece

-- each of these requests, from a state on
abbrev pub EachHasCauses : Configuration → Worn → State → List (List ℕ) → List (List Entry) → Type 0
EachHasCauses c worn s (request ∷ requests) (piece ∷ pieces) = HasCauses c worn s request piece × EachHasCauses c worn (after_from c s piece) requests pieces
EachHasCauses c worn s requests pieces = Unit {0}

-- Behind the start-up of a run come the pieces of these requests, and perhaps more. Its history is legal, and no Post tells of a
-- failed operation but where the flash was worn out, as where no fault is counted, the power stays on and no copy is refused.
abbrev pub AnswersHaveCauses : Type 0
AnswersHaveCauses =
    (r : Run) (marks : List (Instance × Mark)) (ops : ℕ) (requests : List (List ℕ)) (pieces : List (List Entry)) (rest : List Entry)
    → r.history ≡ Found marks ops ∷ joined pieces ++ rest → IsLegal r.configuration r.most r.history → PostWell r → AreServed r.configuration requests pieces
    → EachHasCauses r.configuration (IsWornOut (making_of r.configuration) r.flash) (after r.configuration (Found marks ops ∷ [])) requests pieces
