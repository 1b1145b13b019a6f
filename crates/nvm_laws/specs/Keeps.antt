-- What a stack keeps from turn to turn.
use Rattle.std.specs.Prelude.{◌≡◌, ℕ, true, List, Option, IfSome}
use Rattle.memif.specs.Told.{DeviceTold, Part, PartTold}
use Rattle.memif.specs.Clock.{Clock}
use Rattle.block_machine.specs.Words.{Entry, Configuration}
use Rattle.promise_blocks.specs.OverDevice.{HasStarted, KeepsEarly}
use Rattle.promise_blocks.specs.Operations.{AreOfJobs, AreStartsTold}
use Rattle.nvm_device_laws.specs.Turn.{Keeps, TellsSlots, down}
use Rattle.nvm_device_laws.specs.Tries.{TriesArePaid, is_hand_urgent}
use Rattle.nv_desk_copies.specs.nv_desk.Desk.{DeskState, state_of}
use Rattle.job_progress.specs.Hand.{HandState}
use Rattle.job_progress.specs.JobInHand.{HandFits}

-- OVER A DEVICE THAT TELLS WHAT IT HOLDS
-- The block side's half of the promise; what the job in hand saw fits the settled marks; its failed tries are paid for, beside
-- the Posts so far; an operation of the second part is one of a job of it; and each start-up is told by a Found, or failed. The
-- device's parts are told before the first start-up, it and its clock now.
pub record StackKeeps (before : Part → PartTold) (desk : DeskState) (hand : Option HandState) (d : DeviceTold) (clock : Clock) : Type 0 where
  pub started : HasStarted desk.entries
  pub keeps : Keeps desk.config desk.cap desk.entries before d clock
  pub fits : HandFits desk.config (state_of desk) hand d
  pub paid : IfSome hand (λ h. TriesArePaid desk.config clock.worn (is_hand_urgent desk.config (state_of desk)) before d desk.entries h.program)
  pub order : AreOfJobs desk.config desk.entries d clock
  pub starts : AreStartsTold desk.entries d

-- until a start-up answers Ready: what the device holds for certain isn't the machine's yet
pub record KeepsWhileDown (c : Configuration) (cap : ℕ) (h : List Entry) (before : Part → PartTold) (d : DeviceTold) (clock : Clock) : Type 0 where
  pub keeps : Keeps c cap h before (down d) clock
  pub order : AreOfJobs c h d clock
  pub starts : AreStartsTold h d

abbrev pub KeepsDown : (Part → PartTold) → DeskState → DeviceTold → Clock → Type 0
KeepsDown before desk d clock = KeepsWhileDown desk.config desk.cap desk.entries before d clock

-- OVER ANY DEVICE
-- Where the device tells now what its numbers hold, all is kept; and where it tells that until its first operation, what a history
-- keeps until then, at any time.
pub record KeepsAsTold (All : Type 0) (c : Configuration) (cap : ℕ) (h : List Entry) (d : DeviceTold) (clock : Clock) : Type 0 where
  pub all : TellsSlots d → All
  pub begun : d.tells ≡ true → d.ops ≡ 0 → TellsSlots d
  pub early : d.tells ≡ true → KeepsEarly c cap h clock

-- so it is of a stack, and of one until a start-up answers Ready
abbrev pub StackKeepsAsTold : (Part → PartTold) → DeskState → Option HandState → DeviceTold → Clock → Type 0
StackKeepsAsTold before desk hand d clock = KeepsAsTold (StackKeeps before desk hand d clock) desk.config desk.cap desk.entries d clock

abbrev pub DownKeepsAsTold : (Part → PartTold) → DeskState → DeviceTold → Clock → Type 0
DownKeepsAsTold before desk d clock = KeepsAsTold (KeepsDown before desk d clock) desk.config desk.cap desk.entries d clock

-- it stays so, and what the device tells behind it was told before
pub record StaysKept (desk : DeskState) (hand : Option HandState) (d : DeviceTold) (clock : Clock)
    (desk_new : DeskState) (hand_new : Option HandState) (d_new : DeviceTold) (clock_new : Clock) : Type 0 where
  pub told : TellsSlots d_new → TellsSlots d
  pub tells : d_new.tells ≡ d.tells
  pub kept : (before : Part → PartTold) → StackKeepsAsTold before desk hand d clock → StackKeepsAsTold before desk_new hand_new d_new clock_new
