-- Stores that were shown, and what was handed along with them.
use Rattle.std.specs.Prelude.{◌≡◌, ℕ, ◌+◌, ◌≤◌, List, ◌++◌, length, take, slice_get, Option, Some, IsSome}
use Rattle.turn_gate.specs.declared.pass.View.{View}
use Rattle.turn_gate.specs.Pass.{IsWithin}
use Rattle.block_machine.specs.Words.{Entry, Configuration}
use Rattle.script_walks.specs.Words.{Step}
use Rattle.script_walks.specs.Walk.{store_by, stores_of}
use Rattle.script_walks.specs.Callers.{program_of}
use Rattle.script_walks.specs.Looks.{CanBeMade, CanBeStored}

-- who can have made some steps can have made the first of them
abbrev pub FewerCanBeMade : Type 0
FewerCanBeMade = (c : Configuration) (caller : ℕ) (done more : List Step) (h : List Entry) → CanBeMade c caller (done ++ more) h → CanBeMade c caller done h

-- the step at this place stores this block
pub record IsStoreAt (steps : List Step) (id place : ℕ) (x : Step) : Type 0 where
  pub at : slice_get steps place ≡ Some x
  pub stores : IsSome (store_by id x.caller x.kind)

-- the number of the store at a place
abbrev pub store_number_at : List Step → (id place : ℕ) → ℕ
store_number_at steps id place = length (stores_of id (take place steps)) + 1

-- one caller makes all stores of the block
abbrev pub HasOneOwner : List Step → ℕ → Type 0
HasOneOwner steps id = (i j : ℕ) (x y : Step) → IsStoreAt steps id i x → IsStoreAt steps id j y → x.caller ≡ y.caller

-- Where the caller can have made the steps before one store, that store and each earlier one can have been made.
abbrev pub EarlierCanBeStored : Type 0
EarlierCanBeStored =
    (c : Configuration) (steps : List Step) (id place number : ℕ) (x : Step) (h : List Entry) → HasOneOwner steps id → IsStoreAt steps id place x
    → number ≤ store_number_at steps id place → CanBeMade c x.caller (program_of x.caller (take place steps)) h → CanBeStored c steps id number h

module _ {R : Type 0} (gives : Entry → ℕ → Option ℕ) (IsLawful : List Entry → Type 0) where
  -- What a caller knew tells that it has made these steps: it can have made them in each lawful history in which that stands.
  abbrev pub KnowsMade : Configuration → (caller : ℕ) → (done : List Step) → View Entry R → Type 0
  KnowsMade c caller done w = (h : List Entry) → IsLawful h → IsWithin gives h w → CanBeMade c caller done h

-- The look in the Pick behind these entries showed a store: of the one that was shown last, the note that came with it stands in
-- these entries, as the taker found in the lock, and its caller had made the steps before it when it wrote the note. Then the
-- store that the look showed, which is that one or an earlier one, can have been made by then.
abbrev pub ShownCanBeStored : Type 1
ShownCanBeStored =
    (R : Type 0) (gives : Entry → ℕ → Option ℕ) (IsLawful : List Entry → Type 0) (c : Configuration) (steps : List Step) (id place number : ℕ) (x : Step) (note : View Entry R) (before : List Entry)
    → HasOneOwner steps id → IsStoreAt steps id place x → number ≤ store_number_at steps id place
    → KnowsMade gives IsLawful c x.caller (program_of x.caller (take place steps)) note → IsLawful before → IsWithin gives before note
    → CanBeStored c steps id number before
