-- What a stack keeps from call to call, as far as its device tells what it holds.
use Rattle.std.specs.Prelude.{◌≡◌, ◌+◌, Bool, List, Option}
use Rattle.uds_gateway.specs.memif.Told.{DeviceTold, IfElse, Part, PartTold}
use Rattle.uds_gateway.specs.memif.Clock.{Clock}
use Rattle.uds_gateway.specs.promise_blocks.OverDevice.{HasStarted}
use Rattle.uds_gateway.specs.promise_blocks.Operations.{founds}
use Rattle.uds_gateway.specs.job_progress.Hand.{HandState}
use Rattle.uds_gateway.specs.nv_desk.Desk.{DeskState}
use Rattle.uds_gateway.specs.nvm_device_laws.Turn.{TellsSlots}
use Rattle.uds_gateway.specs.nvm_laws.Keeps.{StackKeepsAsTold}
use Rattle.uds_gateway.specs.ram_blocks.declared.plain_block.PlainBlock.{PlainBlock}
use Rattle.uds_gateway.specs.nvm_core.Stack.{StackState}
use Rattle.uds_gateway.specs.nvm_core.StartUps.{DownKeepsAsTold}

-- behind a start-up that failed: a start-up was made before, and a further one has what it needs
pub record IsDown (before : Part → PartTold) (desk : DeskState) (d : DeviceTold) (clock : Clock) : Type 0 where
  pub started : TellsSlots d → HasStarted desk.entries
  pub keeps : DownKeepsAsTold before desk d clock

-- where its last start-up stands, all
abbrev pub IsKept : Bool → (Part → PartTold) → DeskState → Option HandState → DeviceTold → Clock → Type 0
IsKept ready before desk hand d clock = IfElse ready (StackKeepsAsTold before desk hand d clock) (IsDown before desk d clock)

-- Each start-up of the device has its Found, but for a last one that failed: so it is where a stack is started again only while it is ready.
abbrev pub AreStartsFound : Bool → DeskState → DeviceTold → Type 0
AreStartsFound ready desk d = IfElse ready (d.starts ≡ founds desk.entries) (d.starts ≡ founds desk.entries + 1)

-- of a stack, by what its device tells
abbrev pub kept_by : {D : Type 0} → (device : D → DeviceTold) → (clock : D → Clock) → StackState D (List PlainBlock) → (Part → PartTold) → Type 0
kept_by device clock s before = IsKept s.ready before s.desk s.hand (device s.device) (clock s.device)

abbrev pub starts_found : {D : Type 0} → (device : D → DeviceTold) → StackState D (List PlainBlock) → Type 0
starts_found device s = AreStartsFound s.ready s.desk (device s.device)
