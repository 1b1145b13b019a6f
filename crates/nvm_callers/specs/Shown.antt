-- What the driver may conclude from what came along with a store.
use Rattle.std.specs.Prelude.{◌≡◌, ◌<◌, ◌^◌, ℕ, List, ◌∷◌, ◌++◌, length, take, slice_get, Some}
use Rattle.driver_moves.specs.block_machine.Words.{Entry, Configuration}
use Rattle.driver_moves.specs.nvm_shared.declared.terms.Terms.{Terms}
use Rattle.driver_moves.specs.nvm_shared.StatusWords.{gives}
use Rattle.driver_moves.specs.nvm_shared.Noted.{StandsIn}
use Rattle.driver_moves.specs.nvm_shared.Numbers.{AreAll}
use Rattle.ram_mirrors_sync.specs.Ends.{EndValue, IsTaken}
use Rattle.ram_mirrors_sync.specs.Blocks.{CameWith}
use Rattle.ram_mirrors.specs.Stores.{AllStored}
use Rattle.turn_gate.specs.declared.pass.View.{View}
use Rattle.turn_gate.specs.Entries.{Note, StartsWith}
use Rattle.turn_gate.specs.Pass.{IsWithin}
use Rattle.driver_moves.specs.nvm_moves.script_walks.Words.{Step, Store as StoreStep}
use Rattle.driver_moves.specs.nvm_moves.script_walks.Callers.{program_of}
use Rattle.driver_moves.specs.nvm_moves.script_walks.Walk.{store_content}
use Rattle.driver_moves.specs.nvm_moves.script_walks.Looks.{CanBeMade, CanBeStored}
use Rattle.script_callers.specs.declared.deed.Deed.{Deed}
use Rattle.script_callers.specs.declared.deed.Deed.TheVariants.{Store as StoreDeed}
use Rattle.script_callers.specs.Deeds.{deeds_of}
use Rattle.nvm_callers.specs.Deeds.{HasDone}
use Rattle.script_callers.specs.RunScripts.{AreRun}
use Rattle.nvm_callers.specs.Stored.{Stored, HasStored, TellsDone}

-- Behind each beginning of the history in which what came along stands, its caller can have made these steps, which are those that it
-- had done then.
abbrev pub NotesTellMade : Type 0
NotesTellMade =
    (c : Configuration) (cap : ℕ) (all : List Entry) (own : List ℕ) (seen : List Entry) (notes : List Note) (caller : ℕ) (deeds : List Deed) (program : List Step) (note : View Entry Terms)
    → HasDone c cap own seen notes caller deeds → StartsWith all seen → AreAll all caller own → TellsDone c cap own seen notes caller (deeds_of c program) note
    → (h : List Entry) → StartsWith all h → IsWithin gives h note → CanBeMade c caller program h

-- the step of a script that has a caller store this, behind these deeds of its own
pub record IsStoreStep (c : Configuration) (steps : List Step) (caller : ℕ) (before : List Deed) (block : ℕ) (content : List ℕ) : Type 0 where
  pub place : ℕ
  pub step : Step
  pub at : slice_get steps place ≡ Some step
  pub of : step.caller ≡ caller
  pub kind : step.kind ≡ StoreStep block content
  pub earlier : deeds_of c (program_of caller (take place steps)) ≡ before

abbrev pub DeedsAreSteps : Type 0
DeedsAreSteps =
    (c : Configuration) (steps : List Step) (caller : ℕ) (before after : List Deed) (line block number : ℕ) (content : List ℕ)
    → deeds_of c (program_of caller steps) ≡ before ++ StoreDeed line block number content ∷ after → IsStoreStep c steps caller before block content

-- WHAT THE DRIVER WAS SHOWN
-- what a caller that did the first deeds of its program stored, and what a history tells of it
pub record HasStoredIn (c : Configuration) (cap : ℕ) (all : List Entry) (steps : List Step) (caller : ℕ) (made : ℕ → List Stored) : Type 0 where
  pub own : List ℕ
  pub seen : List Entry
  pub notes : List Note
  pub deeds : List Deed
  pub rest : List Deed
  pub program : deeds_of c (program_of caller steps) ≡ deeds ++ rest
  pub done : HasDone c cap own seen notes caller deeds
  pub stored : HasStored c cap own seen notes caller deeds made
  pub starts : StartsWith all seen
  pub every : AreAll all caller own

-- Where the driver's end took what its owner stored, each store that a look showed can have been made by then, if what came along
-- stands in the entries before.
abbrev pub ShownAreStored : Type 0
ShownAreStored =
    (c : Configuration) (cap : ℕ) (all : List Entry) (steps : List Step) (caller block number : ℕ) (made : ℕ → List Stored) (e : EndValue (View Entry Terms)) (h : List Entry)
    → AreRun c steps → HasStoredIn c cap all steps caller made → AllStored (made block) e.up.got → StartsWith all h → CameWith (StandsIn h) e number
    → CanBeStored c steps block number h

-- And a content that it took is that of the script's store with its number.
abbrev pub TakenAreStored : Type 0
TakenAreStored =
    (c : Configuration) (cap : ℕ) (all : List Entry) (steps : List Step) (caller block number : ℕ) (made : ℕ → List Stored) (e : EndValue (View Entry Terms)) (x : List ℕ)
    → AreRun c steps → length steps < 2 ^ 60 → HasStoredIn c cap all steps caller made → AllStored (made block) e.up.got → store_content c steps block 0 ≡ Some e.first → IsTaken e number x
    → store_content c steps block number ≡ Some x
