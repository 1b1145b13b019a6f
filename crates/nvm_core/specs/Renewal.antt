-- What a new history over the same device is.
use Rattle.std.specs.Prelude.{◌≡◌, ℕ, List, [], ◌∷◌, Option, true}
use Rattle.nvm_laws.specs.nv_base.declared.mark.Mark.{Mark}
use Rattle.nvm_laws.specs.memif.Told.{DeviceTold, Part, PartTold}
use Rattle.nvm_laws.specs.memif.Clock.{Clock}
use Rattle.nvm_laws.specs.block_machine.Words.{Entry, Instance, Found}
use Rattle.nvm_laws.specs.promise_blocks.Marks.{KeepsMarks}
use Rattle.nvm_found.specs.Found.{listed_in}
use Rattle.nvm_laws.specs.nvm_device_laws.Turn.{TellsSlots}
use Rattle.nvm_laws.specs.nv_desk.Desk.{DeskState}
use Rattle.nvm_laws.specs.nv_desk.Recorder.{keeps}
use Rattle.nvm_laws.specs.job_progress.Hand.{HandState}
use Rattle.nvm_laws.specs.Halves.{IsAtRest}
use Rattle.nvm_laws.specs.Keeps.{StackKeeps}
use Rattle.nvm_core.specs.Stack.{StackState, first_stack}
use Rattle.nvm_core.specs.StartUps.{StartsUp, FailsToStart}
use Rattle.nvm_core.specs.declared.renew.Renewed.{Renewed}
use Rattle.nvm_core.specs.declared.renew.Renewed.TheVariants as renewed

-- the stack as it was made, over the device and the copies as they stand
abbrev pub emptied : {D C : Type 0} → StackState D C → StackState D C
emptied s = first_stack s.desk.config s.desk.cap s.device s.copies

-- these are its entries, where it keeps them all
abbrev pub IsHandedOut : List Entry → DeskState → Type 0
IsHandedOut entries desk = keeps desk.cap ≡ true → entries ≡ desk.entries

-- Of a stack at rest the history so far is handed out, and the new one begins with its start-up, or that fails. Any other stack is
-- left alone.
abbrev pub Renews : {D C : Type 0} → (told : D → DeviceTold) → Renewed → StackState D C → StackState D C → Type 0
Renews told (renewed.Ready history) old new =
    IsAtRest old.desk (told old.device) × IsHandedOut history.entries old.desk × StartsUp told (emptied old) new
Renews told (renewed.Failed history) old new =
    IsAtRest old.desk (told old.device) × IsHandedOut history.entries old.desk × FailsToStart told (emptied old) new
Renews told renewed.Busy old new = (¬ IsAtRest old.desk (told old.device)) × (new ≡ old)
Renews told renewed.Memory old new = new ≡ old

-- The new history begins with these marks, which keep to the one before it: each may stand there, is accepted, and is the one that
-- was acknowledged last, or a job took it after that.
pub record MarksStay (old new : DeskState) : Type 0 where
  pub marks : List (Instance × Mark)
  pub ops : ℕ
  pub begins : new.entries ≡ Found marks ops ∷ []
  pub keep : KeepsMarks old.config old.entries (listed_in marks)

-- so it is where the device tells what it holds, and the history so far kept its half of the promise
abbrev pub RenewalKeeps : Renewed → DeskState → Option HandState → DeviceTold → Clock → DeskState → DeviceTold → Type 0
RenewalKeeps (renewed.Ready history) old hand d clock new d_new =
    (before : Part → PartTold) → TellsSlots d_new → StackKeeps before old hand d clock → MarksStay old new
RenewalKeeps r old hand d clock new d_new = Unit {0}
