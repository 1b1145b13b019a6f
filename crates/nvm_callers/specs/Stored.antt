-- What a caller stored into synchronized RAM, and what it handed along.
use Rattle.std.specs.Prelude.{◌≡◌, ◌≢◌, ◌==◌, ℕ, List, [], ◌∷◌, ◌++◌, length, take, if◌then◌else◌, Some}
use mathlib.Core.Option.{some}
use lib.ListN.{get_elem?}
use Rattle.driver_moves.specs.block_machine.Words.{Request, Entry, Configuration}
use Rattle.driver_moves.specs.nvm_shared.declared.terms.Terms.{Terms}
use Rattle.ram_mirrors.specs.declared.view.Store.{Store}
use Rattle.ram_mirrors.specs.Stores.{store_of}
use Rattle.driver_moves.specs.nvm_shared.StatusWords.{gives}
use Rattle.driver_moves.specs.nvm_shared.Numbers.{AreAt}
use Rattle.turn_gate.specs.declared.pass.View.{View}
use Rattle.turn_gate.specs.Entries.{Note, StartsWith, AllAgree}
use Rattle.script_callers.specs.declared.deed.Deed.{Deed}
use Rattle.script_callers.specs.declared.deed.Deed.TheVariants.{Ask as AskDeed, Store as StoreDeed, Await}
use Rattle.script_callers.specs.Deeds.{requests_in}
use Rattle.nvm_callers.specs.Deeds.{HasDone, HasWaitedAll}

-- a content that was stored, with what its caller knew
abbrev pub Stored : Type 0
Stored = Store (View Entry Terms)

-- the contents of the stores of a block among these
abbrev pub stores_in : ℕ → List Deed → List (List ℕ)
stores_in block [] = []
stores_in block (AskDeed line r ∷ ds) = stores_in block ds
stores_in block (StoreDeed line id number content ∷ ds) = if id == block then content ∷ stores_in block ds else stores_in block ds
stores_in block (Await line id ∷ ds) = stores_in block ds

module _ (c : Configuration) (cap : ℕ) (own : List ℕ) (seen : List Entry) (notes : List Note) (caller : ℕ) where
  -- What came along with a store tells that its caller had done these deeds, and its pass knows all of that since.
  pub record TellsDone (before : List Deed) (note : View Entry Terms) : Type 0 where
    pub at : AreAt note.seen caller (take (length (requests_in before)) own) (requests_in before)
    pub waits : HasWaitedAll c cap own note.seen note.notes before
    pub seen_since : StartsWith seen note.seen
    pub told_since : StartsWith notes note.notes

  -- The k-th store of a block was made by one of these deeds, and what came along tells that its caller had done those before it.
  pub record IsStoreOf (deeds : List Deed) (block k : ℕ) (x : Stored) : Type 0 where
    pub before : List Deed
    pub after : List Deed
    pub line : ℕ
    pub number : ℕ
    pub is : deeds ≡ before ++ StoreDeed line block number x.content ∷ after
    pub place : k ≡ length (stores_in block before)
    pub note : View Entry Terms
    pub along : x.note ≡ Some note
    pub done : TellsDone before note

  -- so was each of these, by block
  abbrev pub HasStored : List Deed → (ℕ → List Stored) → Type 0
  HasStored deeds made = (block k : ℕ) (x : Stored) → get_elem? (made block) k ≡ some x → IsStoreOf deeds block k x

-- and there are as many of a block as there are such deeds
abbrev pub AreAsMany : List Deed → (ℕ → List Stored) → Type 0
AreAsMany deeds made = (block : ℕ) → length (made block) ≡ length (stores_in block deeds)

-- one store of a block more, with what was handed along
pub record StoredOne (block : ℕ) (content : List ℕ) (note : View Entry Terms) (made made_new : ℕ → List Stored) : Type 0 where
  pub one : made_new block ≡ made block ++ store_of content (Some note) ∷ []
  pub others : (other : ℕ) → other ≢ block → made_new other ≡ made other

-- HOW IT GROWS
-- nothing was stored at first
abbrev pub NoneIsStored : Type 0
NoneIsStored =
    (c : Configuration) (cap : ℕ) (own : List ℕ) (seen : List Entry) (notes : List Note) (caller : ℕ) (made : ℕ → List Stored) → ((block : ℕ) → made block ≡ [])
    → HasStored c cap own seen notes caller [] made

-- it stays so behind a request
abbrev pub AsksStayStored : Type 0
AsksStayStored =
    (c : Configuration) (cap : ℕ) (own : List ℕ) (seen before : List Entry) (notes : List Note) (caller : ℕ) (deeds : List Deed) (made : ℕ → List Stored) (line : ℕ) (r : Request) (e : Entry)
    → HasStored c cap own seen notes caller deeds made → HasDone c cap own seen notes caller deeds → StartsWith before seen → AllAgree gives before notes
    → HasStored c cap (own ++ length before ∷ []) (before ++ e ∷ []) notes caller (deeds ++ AskDeed line r ∷ []) made

-- and whatever is seen and told later
abbrev pub StoresLast : Type 0
StoresLast =
    (c : Configuration) (cap : ℕ) (own : List ℕ) (seen seen_new : List Entry) (notes more : List Note) (caller : ℕ) (deeds more_deeds : List Deed) (made : ℕ → List Stored)
    → HasStored c cap own seen notes caller deeds made → StartsWith seen_new seen → HasStored c cap own seen_new (notes ++ more) caller (deeds ++ more_deeds) made

-- one store more, which hands along what the caller's pass knows
abbrev pub StoresAreStored : Type 0
StoresAreStored =
    (c : Configuration) (cap : ℕ) (own : List ℕ) (caller : ℕ) (deeds : List Deed) (made made_new : ℕ → List Stored) (line block number : ℕ) (content : List ℕ) (note : View Entry Terms)
    → HasStored c cap own note.seen note.notes caller deeds made → AreAsMany deeds made → HasDone c cap own note.seen note.notes caller deeds → StoredOne block content note made made_new
    → HasStored c cap own note.seen note.notes caller (deeds ++ StoreDeed line block number content ∷ []) made_new
