-- Histories as they are written: each request is answered by the machine, whatever the device tells; and where it tells what it
-- holds, each entry is one that the machine allows.
use Rattle.std.specs.Prelude.{◌≡◌, ℕ, Bool, true, List, [], ◌∷◌, ◌++◌}
use Rattle.nvm_core.specs.block_machine.Words.{Entry, Ask, Configuration}
use Rattle.nvm_core.specs.block_machine.State.{State}
use Rattle.nvm_core.specs.block_machine.StartUp.{at_first}
use Rattle.nvm_core.specs.block_machine.Steps.{step, after_from}
use Rattle.nvm_core.specs.block_machine.Legal.{IsAllowed, IsLegal}

module _ (tells : Bool) (c : Configuration) (cap : ℕ) where
  abbrev pub IsWritten : State → Entry → Type 0
  IsWritten s (Ask caller r reply) = IsAllowed c cap s (Ask caller r reply)
  IsWritten s e = tells ≡ true → IsAllowed c cap s e

  -- from a state on
  abbrev pub AreWritten : State → List Entry → Type 0
  AreWritten s [] = Unit {0}
  AreWritten s (e ∷ es) = IsWritten s e × AreWritten (step c s e) es

-- one entry more
abbrev pub HistoriesAreWrittenOn : Type 0
HistoriesAreWrittenOn =
    (tells : Bool) (c : Configuration) (cap : ℕ) (s : State) (es : List Entry) (e : Entry) → AreWritten tells c cap s es
    → IsWritten tells c cap (after_from c s es) e → AreWritten tells c cap s (es ++ e ∷ [])

-- the entries behind a beginning are written from the state after it on
abbrev pub RestsAreWritten : Type 0
RestsAreWritten =
    (tells : Bool) (c : Configuration) (cap : ℕ) (s : State) (es more : List Entry) → AreWritten tells c cap s (es ++ more)
    → AreWritten tells c cap (after_from c s es) more

-- where the device tells what it holds, such a history is legal
abbrev pub WrittenAreLegal : Type 0
WrittenAreLegal = (c : Configuration) (cap : ℕ) (h : List Entry) → AreWritten true c cap at_first h → IsLegal c cap h

-- and a legal history is written
abbrev pub LegalAreWritten : Type 0
LegalAreWritten = (tells : Bool) (c : Configuration) (cap : ℕ) (h : List Entry) → IsLegal c cap h → AreWritten tells c cap at_first h
