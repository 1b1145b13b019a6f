-- The value under the lock.
use Rattle.std.specs.Prelude.{IsTrue, Bool, List}
use Rattle.nvm_core.specs.block_machine.Words.{Entry}
use Rattle.nvm_core.specs.block_machine.StartUp.{at_first}
use Rattle.nvm_core.specs.nv_desk.Desk.{DeskState, state_of}
use Rattle.nvm_core.specs.nv_desk_copies.Front.{StagingState, StagesAll}
use Rattle.nvm_shared.specs.Written.{AreWritten}
use Rattle.nvm_shared.specs.declared.terms.Terms.{Terms}

-- the desk, and whether the device tells what it holds
pub record LockedState : Type 0 where
  pub desk : DeskState
  pub tells : Bool

-- what never changes of it
abbrev pub terms_of : LockedState → Terms
terms_of l = record { config = l.desk.config; cap = l.desk.cap; prepared = l.desk.prepared; tells = l.tells }

-- the desk of these terms with these entries
abbrev pub desk_with : Terms → List Entry → DeskState
desk_with t entries = record { config = t.config; cap = t.cap; entries = entries; prepared = t.prepared }

-- a start-up stands, each request was answered by the machine, and where the device tells what it holds the history is legal
pub record IsLocked (desk : DeskState) (staging : StagingState) (tells : Bool) : Type 0 where
  pub stages : StagesAll desk.config staging
  pub started : IsTrue (state_of desk).started
  pub written : AreWritten tells desk.config desk.cap at_first desk.entries
