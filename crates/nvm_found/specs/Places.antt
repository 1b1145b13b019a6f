-- What was found of a number, and what a read comes to.
use Rattle.std.specs.Prelude.{◌≡◌, ◌≤◌, ◌⊎◌, if◌then◌else◌, ℕ, zero, suc, true, false, List, [], ◌∷◌, IfSome, Some}
use Rattle.block_machine.specs.nv_base.declared.instance.DeviceNumber.{DeviceNumber}
use Rattle.block_machine.specs.nv_base.declared.mark.Mark.{Mark}
use Rattle.memif.specs.declared.answer.JobResult.{JobResult}
use Rattle.memif.specs.declared.answer.JobResult.TheVariants.{JobFailed}
use Rattle.memif.specs.Told.{DeviceTold, Slot, is_open, slot_at}
use Rattle.memif.specs.Marks.{KeepsAll}
use Rattle.memif.specs.Clock.{Clock}
use Rattle.memif.specs.Calls.{ReadsAt, Gives}
use Rattle.memif.specs.Trials.{Lasts}
use Rattle.nvm_device_laws.specs.Turn.{Stays, StaysDown}
use Rattle.nv_recorder.specs.declared.found_marks.FoundPlace.{FoundPlace}
use Rattle.nv_recorder.specs.FoundMarks.{mark_at}
use Rattle.nvm_found.specs.Found.{IsUp, HasFault, ReadAtOnce}

-- PLACES
-- it is what the device holds for certain
abbrev pub IsHeldIn : List (DeviceNumber × ℕ) → List Slot → FoundPlace → Type 0
IsHeldIn numbers slots p = mark_at p ≡ (slot_at numbers slots p.number.0).settled.mark

-- so is that of each of the first so many
abbrev pub FirstHeldIn : List (DeviceNumber × ℕ) → List Slot → ℕ → List FoundPlace → Type 0
FirstHeldIn numbers slots zero ps = Unit {0}
FirstHeldIn numbers slots (suc i) [] = Unit {0}
FirstHeldIn numbers slots (suc i) (p ∷ ps) = IsHeldIn numbers slots p × FirstHeldIn numbers slots i ps

-- the same, where the device tells what it holds
abbrev pub IsHeld : DeviceTold → FoundPlace → Type 0
IsHeld d p = IfSome d.slots (λ slots. IsHeldIn d.fixed.numbers slots p)

abbrev pub HoldsMark : DeviceTold → ℕ → Mark → Type 0
HoldsMark d n m = IfSome d.slots (λ slots. m ≡ (slot_at d.fixed.numbers slots n).settled.mark)

abbrev pub FirstHeld : DeviceTold → ℕ → List FoundPlace → Type 0
FirstHeld d i ps = IfSome d.slots (λ slots. FirstHeldIn d.fixed.numbers slots i ps)

-- READS
-- a start-up answered Ok, and no job is open
pub record IsReady (d : DeviceTold) : Type 0 where
  pub started : d.started ≡ true
  pub first_on : d.first.off ≡ false
  pub second_on : d.second.off ≡ false
  pub at_rest : is_open d.stand ≡ false

-- since a start-up no more is left than the turn of an open read, unless a fault was counted
abbrev pub LeavesRead : DeviceTold → DeviceTold → Type 0
LeavesRead begun d = (d.left ≤ (if is_open d.stand then 1 else 0)) ⊎ HasFault begun d

-- what reads leave of a device that was started up
pub record ReadsOn (old : DeviceTold) (clock : Clock) (new : DeviceTold) (clock_new : Clock) : Type 0 where
  pub fixed : new.fixed ≡ old.fixed
  pub marks : KeepsAll old new
  pub ops : new.ops ≡ old.ops
  pub up : (begun : DeviceTold) → IsUp begun old → IsUp begun new
  pub left : ReadAtOnce old.fixed → (begun : DeviceTold) → IsUp begun old → LeavesRead begun old → LeavesRead begun new
  pub stays : Stays old clock new clock_new
  pub down : StaysDown old clock new clock_new
  pub lasts : Lasts old clock new clock_new

-- what a read of a number came to
pub record ReadComesTo (number size : ℕ) (old : DeviceTold) (outcome : JobResult) (given : List ℕ) (new : DeviceTold) : Type 0 where
  pub held : ReadsAt number new.slots outcome given new
  pub gives : Gives outcome (Some size) given
  pub fault : outcome ≡ JobFailed → (begun : DeviceTold) → IsUp begun old → HasFault begun new
