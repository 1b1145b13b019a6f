-- The turn of a device that is worn out, which ends the job.
use Rattle.std.specs.Prelude.{◌≡◌, ◌≢◌, ◌⊎◌, ◌+◌, ℕ, true, false, IsTrue, List, unwrap_or, Some, None, IfSome, IsSome}
use Rattle.nv_base.specs.declared.instance.DeviceNumber.{DeviceNumber}
use Rattle.nv_base.specs.declared.job.DeviceOp.TheVariants.{Read}
use Rattle.memif.specs.declared.answer.DeviceTurn.TheVariants as turn
use Rattle.memif.specs.declared.answer.JobResult.TheVariants.{JobFailed}
use Rattle.fls_model.specs.Told.{Told}
use Rattle.fee_image.specs.Image.{bank_in, active_of}
use Rattle.fee_image.specs.RecordList.{IsClosed, end_of}
use Rattle.fee_switch_laws.specs.fee_log.Log.{work_in, is_closed}
use Rattle.fee_switch_laws.specs.fee_switch.declared.active.ActiveBank.{ActiveBank}
use Rattle.fee_switch_laws.specs.fee_switch.Active.{active_shown}
use Rattle.fee_switch_laws.specs.fee_switch.Banks.{is_worn_out}
use Rattle.fee_switch_laws.specs.Space.{free_pages}
use Rattle.promise_device.specs.Making.{Making, banks_of}
use Rattle.promise_device.specs.Bridge.{may_be_closed}
use Rattle.promise_device.specs.Image.{HasNoRoomFor}
use Rattle.fee_told.specs.Device.{tells_now}
use Rattle.fee_laws.specs.declared.job.FeeJob.{FeeJob}
use Rattle.fee_laws.specs.Inside.{Parts, device_of}
use Rattle.fee_laws.specs.Work.{fits_in}
use Rattle.fee_laws.specs.Turn.{IsOn, ended_as, Turned}

-- the active bank is the one that these bytes show, and it has no more pages free in them than in memory, or a program
-- failed since the last erase
pub record ShowsRoom (m : Making) (s : Parts) (bytes : List ℕ) : Type 0 where
  pub active : active_shown s.banks.active ≡ active_of (banks_of m) bytes
  pub room : IsSome s.banks.active → HasNoRoomFor (free_pages s.banks + 1) m bytes ⊎ IsTrue (may_be_closed s.operations)

-- where its log is closed, the bank is closed in the bytes, or a program failed since the last erase
abbrev pub ShowsClosed : Making → Parts → List ℕ → Type 0
ShowsClosed m s bytes =
    (a : ActiveBank) → s.banks.active ≡ Some a → is_closed s.banks.log.tail ≡ true
    → (let b = bank_in (banks_of m) a.head.format a.bank in IsClosed b bytes (end_of b bytes)) ⊎ IsTrue (may_be_closed s.operations)

-- What is known of the bytes beside the invariant, where they are told: why a log is closed, and where they weren't sound
-- when the device was made, which bank is active and what room it has.
pub record KnowsRoom (m : Making) (entry : Told) (s : Parts) (bytes : List ℕ) : Type 0 where
  pub closed : ShowsClosed m s bytes
  pub unsound : tells_now (device_of m entry s) ≡ false → ShowsRoom m s bytes

-- the open job's record has no room, no switch is open, and none can follow
pub record IsWornNow (m : Making) (entry : Told) (s : Parts) (j : FeeJob) : Type 0 where
  pub job : s.job ≡ Some j
  pub writes : j.op ≢ Read
  pub idle : work_in s.banks.log.tail ≡ None
  pub shut : s.banks.course ≡ None
  pub full : fits_in m.reserve s.banks j ≡ false
  pub worn : IsSome s.worn ⊎ (is_worn_out s.banks.active ≡ true)
  pub bytes : IfSome s.fls.flash.bytes (λ b. KnowsRoom m entry s b.now)

-- from now on, where it wasn't before
abbrev pub worn_with : ℕ → Parts → Parts
worn_with count s = record (ended_as JobFailed s) { worn = Some (unwrap_or s.worn count) }

abbrev pub WearsOut : Type 0
WearsOut =
    (m : Making) (entry : Told) (s : Parts) (listed : List (DeviceNumber × ℕ)) (kept count : ℕ) (j : FeeJob)
    → IsOn m entry s listed kept count → IsWornNow m entry s j → Turned m entry turn.Worked s (worn_with count s) listed kept count false
