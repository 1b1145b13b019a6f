-- A unit: a stack over memory that is lent, behind its first start-up.
use Rattle.std.specs.Prelude.{◌≡◌, ◌-◌, ℕ, Bool, false, List, length, Option, Some, IsSome, IsSomeAnd, OnErr, Result, option_map, slice_get}
use Rattle.nvm.specs.block_config.Config.{Configuration}
use Rattle.nvm.specs.block_machine.Words.{Reply, Request}
use Rattle.nvm.specs.fls_devices.Cutter.{cutting, told_cutting}
use Rattle.nvm.specs.fls_model.Told.{Told, bytes_now}
use Rattle.nvm.specs.nv_desk.Recorder.{endless, keeps}
use Rattle.nvm.specs.nv_desk.declared.ask.AskFault.{AskFault}
use Rattle.nvm.specs.nvm_core.StartUps.{StartsUp}
use Rattle.nvm.specs.nvm_core.nv_desk_copies.Front.{given_at}
use Rattle.nvm.specs.nvm_flash.Made.{IsBack, IsMadeStack, IsOrigin}
pub use Rattle.nvm.specs.Closing.{UnitState, Closes}
use Rattle.nvm.specs.Turned.{AsksMove, PlansMove, TurnsMove, unit_seen}
use Rattle.nvm.specs.Unit.{takes_of}
use Rattle.nvm.specs.nvm_flash.fee_laws.Made.{part_at}
use Rattle.nvm.specs.nvm_flash.fls_told.Device.{is_told_sound}
use Rattle.nvm.specs.nvm_flash.fee_told.Device.{told_of, clock_of}
use Rattle.nvm.specs.nvm_flash.nvm_laws.declared.turned.FoundAnswer.{FoundAnswer}
use Rattle.nvm.specs.nvm_flash.nvm_laws.declared.turned.FoundAnswer.TheVariants as found
use Rattle.nvm.specs.nvm_flash.nvm_laws.declared.turned.Turned.{Turned}
use Rattle.nvm.specs.nvm_flash.promise_device.Bridge.{reading_of}
use Rattle.nvm.specs.nvm_flash.promise_device.Making.{Making}
use Rattle.nvm.specs.nvm_moves.Seen.{frame_of}
use Rattle.nvm_script.specs.Lines.{entry_line}
use Rattle.script_player.specs.Calls.{Arms, Asks, Restarts, Turns}
use Rattle.script_player.specs.PlainTold.{told_by}
use Rattle.script_player.specs.Told.{StackTold}

-- what a player of steps is told of it
abbrev pub unit_told : UnitState → StackTold
unit_told = told_by told_of

-- at any time: it knows whether its last start-up stands, and how many plans of power cuts its flash takes yet, and its entries are counted
pub record IsLent (up : Bool) (plans : ℕ) (s : UnitState) : Type 0 where
  pub is_up : s.ready ≡ up
  pub takes : takes_of s ≡ plans
  pub counted : keeps s.desk.cap ≡ false

-- the flash told its bytes when the device was made over it, and it is known whether these were a sound image
pub record KnowsImage (sound : Bool) (making : Making) (entry : Told) : Type 0 where
  pub told : IsSome (bytes_now entry)
  pub known : sound ≡ is_told_sound (reading_of making) (bytes_now entry)

-- it is opened: its stack was made for the configuration, and made its first start-up
pub record Opens (c : Configuration) (making : Making) (entry : Told) (s : UnitState) : Type 0 where
  pub made : UnitState
  pub is_made : IsMadeStack c endless making entry made
  pub starts : StartsUp told_of made s

-- CALLS
-- a request of the one caller; where it isn't answered nothing changed
pub record IsAskCall (request : Request) (answer : Result Reply AskFault) (s t : UnitState) : Type 0 where
  pub told : Asks 0 request answer (unit_told s) (unit_told t)
  pub moved : AsksMove 0 request answer s t
  pub none : OnErr answer (t ≡ s)

-- a turn
pub record IsTurnCall (answer : Turned) (s t : UnitState) : Type 0 where
  pub told : Turns answer (unit_told s) (unit_told t)
  pub moved : TurnsMove s t

-- for want of room nothing changed, and there is no want of memory
abbrev pub IsSameAt : FoundAnswer → UnitState → UnitState → Type 0
IsSameAt found.NoRoom s t = t ≡ s
IsSameAt found.Memory s t = ⊥
IsSameAt answer s t = Unit {0}

-- a further start-up, behind which jobs have as many turns as before
pub record IsStartCall (answer : FoundAnswer) (s t : UnitState) : Type 0 where
  pub told : Restarts answer (unit_told s) (unit_told t)
  pub frame : frame_of false (unit_seen t) ≡ frame_of false (unit_seen s)
  pub none : IsSameAt answer s t

-- a plan of a power cut
pub record IsPlanCall (nth keep : ℕ) (s t : UnitState) : Type 0 where
  pub told : Arms nth keep (unit_told s) (unit_told t)
  pub moved : PlansMove s t

-- WHAT IT SHOWS
-- what the last entry gave, where that is a Post that gave something
abbrev pub given_last : UnitState → Option (List ℕ)
given_last s = given_at s.desk.entries (length s.desk.entries - 1)

-- the line of the last entry, with its newline, where there is an entry
abbrev pub last_line : UnitState → Option (List ℕ)
last_line s = option_map entry_line (slice_get s.desk.entries (length s.desk.entries - 1))

-- THE END
-- the flash comes back so, and these are its bytes
abbrev pub ClosesWith : Told → UnitState → List ℕ → Type 0
ClosesWith entry s bytes = (exit : Told) × (bytes_now exit ≡ Some bytes) × Closes entry exit s

-- the memory comes back so, of a flash that told what its device was made over
abbrev pub CameBack : Told → UnitState → Option (List ℕ) → Type 0
CameBack entry s bytes = IsSomeAnd bytes (λ image. (inner : Told) (cuts : ℕ) → entry ≡ told_cutting (cutting inner cuts) → ClosesWith inner s image)

-- it has the bytes of a flash that was taken from its device, of which that told what is so
abbrev pub TakenFrom : (making : Making) (entry : Told) → UnitState → Option (List ℕ) → Type 0
TakenFrom making entry s bytes =
    (c : Configuration) (inner : Told) (cuts : ℕ) → IsOrigin c inner cuts making entry
    → (exit : Told) × (bytes ≡ bytes_now exit) × IsBack c inner exit (part_at entry) (told_of s.device) (clock_of s.device)
