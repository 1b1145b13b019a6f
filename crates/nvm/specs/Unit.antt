-- What the stack of a unit keeps.
use Rattle.std.specs.Prelude.{◌≡◌, ◌==◌, ◌&&◌, ◌-◌, ℕ, nat_le, if◌then◌else◌, true, false, map, get_or, length, slice_get, List, [], Some}
use Rattle.nvm_flash.specs.nv_base.declared.entry.Entry.{Entry}
use Rattle.nvm_flash.specs.block_config.Config.{Configuration}
use Rattle.nvm_flash.specs.block_machine.Words.{Instance, Mark, Found}
use Rattle.nvm_flash.specs.memif.Told.{Slot}
use Rattle.nvm_flash.specs.fls_model.Told.{Told}
use Rattle.nvm_flash.specs.promise_device.Making.{Making}
use Rattle.nvm_flash.specs.fee_core.Tells.{told_clock}
use Rattle.nvm_flash.specs.fee_told.Device.{told_of, clock_of}
use Rattle.nvm_flash.specs.fls_devices.Cutter.{cutting, told_cutting}
use Rattle.nvm_flash.specs.fee_laws.Made.{part_at}
use Rattle.nvm_flash.specs.promise_blocks.OverDevice.{HasStarted}
use Rattle.nvm_flash.specs.promise_run.Promise.{making_of}
use Rattle.nvm_flash.specs.ram_blocks.Plain.{told_of as copy_told, store_of}
use Rattle.nvm_flash.specs.ram_blocks.declared.plain_block.PlainBlock.{PlainBlock}
use Rattle.nvm_flash.specs.nv_desk.Recorder.{endless}
use Rattle.nvm_flash.specs.nvm_device_laws.Turn.{TellsSlots}
use Rattle.nvm_flash.specs.nvm_laws.Keeps.{StackKeepsAsTold}
use Rattle.nvm_flash.specs.nvm_laws.Standing.{settled_marks}
use Rattle.nvm_flash.specs.nvm_laws.declared.turned.Act.{Act}
use Rattle.nvm_flash.specs.nvm_laws.declared.turned.Turned.{Turned}
use Rattle.nvm_flash.specs.nvm_core.StartUps.{DownKeepsAsTold}
use Rattle.nvm_flash.specs.nvm_core.Turns.{Turns, IsFirstHalf}
use Rattle.nvm_flash.specs.Made.{IsBack, one_part}
use Rattle.nvm.specs.Closing.{UnitState, Closes}
use Rattle.nvm.specs.Turned.{HasTurned}

-- behind a start-up that failed: one was made before, and a further one has what it needs
pub record IsDown (entry : Told) (s : UnitState) : Type 0 where
  pub started : TellsSlots (told_of s.device) → HasStarted s.desk.entries
  pub keeps : DownKeepsAsTold (one_part (part_at entry)) s.desk (told_of s.device) (told_clock s.device)

-- how many plans of power cuts its flash takes yet
abbrev pub takes_of : UnitState → ℕ
takes_of s = (told_of s.device).first.planning.takes

-- behind a plan of a cut: one fewer, if it is one of the first part, of an operation from the next one on
abbrev pub left_behind : (which nth takes : ℕ) → ℕ
left_behind which nth takes = if which == 0 && nat_le 1 nth then takes - 1 else takes

-- at any time: its device was made for its configuration, its flash takes so many plans of power cuts yet, what its calls keep is kept, and
-- they made moves
pub record IsUnit (making : Making) (entry : Told) (plans : ℕ) (s : UnitState) : Type 0 where
  pub made_for : making ≡ making_of s.desk.config
  pub takes : takes_of s ≡ plans
  pub up : s.ready ≡ true → StackKeepsAsTold (one_part (part_at entry)) s.desk s.hand (told_of s.device) (told_clock s.device)
  pub down : s.ready ≡ false → IsDown entry s
  pub turned : HasTurned s

-- Where its last start-up stands and its device tells what it holds, a Found that is the last entry lists that.
abbrev pub ListsStanding : UnitState → Type 0
ListsStanding s =
    (marks : List (Instance × Mark)) (ops : ℕ) (slots : List Slot) → s.ready ≡ true → (told_of s.device).slots ≡ Some slots
    → slice_get s.desk.entries (length s.desk.entries - 1) ≡ Some (Found marks ops) → marks ≡ settled_marks (told_of s.device).fixed.numbers slots

-- what none of its calls changes
pub record Stays (old new : UnitState) : Type 0 where
  pub config : new.desk.config ≡ old.desk.config
  pub most : new.desk.cap ≡ old.desk.cap

-- a turn of it, whose application stores in memory, and its first half
abbrev pub is_now : List PlainBlock → ℕ → ℕ → List ℕ → Type 0
is_now copies b n x = get_or (map store_of copies) b (0, []) ≡ (n, x)

abbrev pub UnitTurns : Turned → UnitState → UnitState → Type 0
UnitTurns answer old new = Turns told_of told_clock (λ copies. map copy_told copies) is_now (λ before behind b n. Unit {0}) answer old new

abbrev pub UnitHalf : Act → UnitState → UnitState → Type 0
UnitHalf act old new = IsFirstHalf told_of (λ copies. map copy_told copies) is_now (λ before behind b n. Unit {0}) act old new

-- a unit had a run of a configuration over a flash, of whose entries this is so, and the flash comes back with what they say
pub record HasRun (c : Configuration) (entry exit : Told) (Ran : List Entry → Type 0) : Type 0 where
  pub stack : UnitState
  pub config : stack.desk.config ≡ c
  pub most : stack.desk.cap ≡ endless
  pub ran : Ran stack.desk.entries
  pub closes : Closes entry exit stack

-- At any time: were the flash, of which the device told what is so, taken from it, it would come back so.
abbrev pub Stands : Told → UnitState → Type 0
Stands entry s =
    (inner exit : Told) (cuts : ℕ) → entry ≡ told_cutting (cutting inner cuts)
    → IsBack s.desk.config inner exit (part_at entry) (told_of s.device) (clock_of s.device) → Closes inner exit s
