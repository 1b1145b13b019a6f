-- The beginning of a record or a switch, in memory alone, which a turn makes before its first operation.
use Rattle.std.specs.Prelude.{◌≡◌, ℕ, true, false, is_some, List, Some, None}
use Rattle.nv_base.specs.declared.instance.DeviceNumber.{DeviceNumber}
use Rattle.memif.specs.declared.answer.DeviceTurn.{DeviceTurn}
use Rattle.memif.specs.Told.{DeviceTold, is_open}
use Rattle.memif.specs.Clock.{Clock, SameClock}
use Rattle.memif.specs.Calls.{Turns}
use Rattle.fls_model.specs.Told.{Told}
use Rattle.fee_format.specs.declared.rec_head.RecordKind.{RecordKind}
use Rattle.fee_switch_laws.specs.fee_log.Log.{IsFor, work_in}
use Rattle.fee_course.specs.declared.course.Course.TheVariants.{Erase}
use Rattle.fee_switch_laws.specs.fee_switch.Banks.{TakesRecord, append_begun, begun_again, is_worn_out}
use Rattle.promise_device.specs.Making.{Making}
use Rattle.fee_told.specs.Device.{told_of, clock_of}
use Rattle.fee_told.specs.Turns.{is_sealing, TakesTurn}
use Rattle.fee_laws.specs.declared.job.FeeJob.{FeeJob}
use Rattle.fee_laws.specs.Inside.{Parts, memory_of, device_of, IsSound}
use Rattle.fee_laws.specs.Record.{kind_of, head_of}
use Rattle.fee_laws.specs.Work.{fits_in}
use Rattle.fee_laws.specs.Turn.{IsOn}

-- what was begun tells the same, but for a switch, and as many turns are left
pub record HasBegun (old mid : DeviceTold) (clock clock_mid : Clock) : Type 0 where
  pub only : mid ≡ record old { switching = mid.switching; left = mid.left }
  pub left : mid.left ≡ old.left
  pub job : is_open old.stand ≡ true
  pub switching : old.switching ≡ true → mid.switching ≡ true
  pub on : (old.first.off ≡ false) × (old.second.off ≡ false)
  pub same : SameClock clock clock_mid

-- no switch is open, or one whose gate isn't the next step
abbrev pub IsUnsealed : Parts → Type 0
IsUnsealed s = is_sealing (memory_of s).phase ≡ false

-- so a turn of what was begun is a turn of what was before
abbrev pub BegunTurns : Type 0
BegunTurns =
    (answer : DeviceTurn) (m : Making) (entry : Told) (s mid t : Parts)
    → HasBegun (told_of (device_of m entry s)) (told_of (device_of m entry mid)) (clock_of (device_of m entry s)) (clock_of (device_of m entry mid))
    → Turns answer (told_of (device_of m entry mid)) (clock_of (device_of m entry mid)) (told_of (device_of m entry t)) (clock_of (device_of m entry t))
    → Turns answer (told_of (device_of m entry s)) (clock_of (device_of m entry s)) (told_of (device_of m entry t)) (clock_of (device_of m entry t))

-- and takes as many of those that are left: no switch is at its seal, from which it would end
abbrev pub BegunTakes : Type 0
BegunTakes =
    (answer : DeviceTurn) (m : Making) (entry : Told) (s mid t : Parts)
    → HasBegun (told_of (device_of m entry s)) (told_of (device_of m entry mid)) (clock_of (device_of m entry s)) (clock_of (device_of m entry mid))
    → IsUnsealed s → IsUnsealed mid → TakesTurn answer (device_of m entry mid) (device_of m entry t) → TakesTurn answer (device_of m entry s) (device_of m entry t)

-- the open job's record may begin: none is in work, and it has room; beside a switch that erases or copies an urgent one's may
pub record MayBegin (m : Making) (s : Parts) (j : FeeJob) : Type 0 where
  pub job : s.job ≡ Some j
  pub kind : RecordKind
  pub writes : kind_of j.op ≡ Some kind
  pub idle : work_in s.banks.log.tail ≡ None
  pub taken : TakesRecord kind s.banks.course
  pub beside : is_some s.banks.course ≡ true → j.urgent ≡ true
  pub configured : IsFor s.banks.log.numbers (head_of s.banks.log kind j)
  pub room : fits_in m.reserve s.banks j ≡ true

abbrev pub begun_with : RecordKind → FeeJob → Parts → Parts
begun_with kind j s = record s { banks = append_begun s.banks (head_of s.banks.log kind j) }

pub record Begun (m : Making) (entry : Told) (s t : Parts) (listed : List (DeviceNumber × ℕ)) (kept count : ℕ) : Type 0 where
  pub told : HasBegun (told_of (device_of m entry s)) (told_of (device_of m entry t)) (clock_of (device_of m entry s)) (clock_of (device_of m entry t))
  pub sound : IsSound m entry t listed kept count false
  pub unsealed : IsUnsealed s × IsUnsealed t

abbrev pub RecordsBegin : Type 0
RecordsBegin =
    (m : Making) (entry : Told) (s : Parts) (listed : List (DeviceNumber × ℕ)) (kept count : ℕ) (j : FeeJob)
    → IsOn m entry s listed kept count → (may : MayBegin m s j) → Begun m entry s (begun_with may.kind j s) listed kept count

-- a switch may be opened for the open job: its record has no room, and the device isn't worn out
pub record MaySwitch (m : Making) (s : Parts) (j : FeeJob) : Type 0 where
  pub job : s.job ≡ Some j
  pub kind : RecordKind
  pub writes : kind_of j.op ≡ Some kind
  pub idle : work_in s.banks.log.tail ≡ None
  pub shut : s.banks.course ≡ None
  pub configured : IsFor s.banks.log.numbers (head_of s.banks.log kind j)
  pub full : fits_in m.reserve s.banks j ≡ false
  pub fresh : s.worn ≡ None
  pub worn : is_worn_out s.banks.active ≡ false

abbrev pub switching_with : Parts → Parts
switching_with s = record s { banks = begun_again s.banks (Erase 0) }

abbrev pub SwitchesBegin : Type 0
SwitchesBegin =
    (m : Making) (entry : Told) (s : Parts) (listed : List (DeviceNumber × ℕ)) (kept count : ℕ) (j : FeeJob)
    → IsOn m entry s listed kept count → MaySwitch m s j → Begun m entry s (switching_with s) listed kept count
