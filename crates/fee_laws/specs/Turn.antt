-- A turn of a device, from its parts before it and behind it.
use Rattle.std.specs.Prelude.{◌≡◌, ◌++◌, ◌∷◌, [], ℕ, Bool, true, false, List, None}
use Rattle.nv_base.specs.declared.instance.DeviceNumber.{DeviceNumber}
use Rattle.memif.specs.declared.answer.DeviceTurn.{DeviceTurn}
use Rattle.memif.specs.declared.answer.JobResult.{JobResult}
use Rattle.memif.specs.Calls.{Turns}
use Rattle.fls_model.specs.declared.flash.FlashAnswer.{FlashAnswer}
use Rattle.fls_model.specs.Op.{Op}
use Rattle.fls_model.specs.Step.{CountsUnplanned}
use Rattle.fls_model.specs.Told.{Told}
use Rattle.fls_jobs.specs.State.{FlsState, IsDriverState}
use Rattle.fee_switch_laws.specs.fee_log.Log.{IsLogState}
use Rattle.fee_switch_laws.specs.fee_switch.Banks.{BanksState, IsBanksState}
use Rattle.promise_device.specs.Making.{Making}
use Rattle.fee_told.specs.fls_told.Clock.{change_of}
use Rattle.fee_told.specs.fls_told.Runs.{counts_fault}
use Rattle.fee_told.specs.Device.{told_of, clock_of}
use Rattle.fee_told.specs.Turns.{TakesTurn}
use Rattle.fee_laws.specs.Inside.{Parts, device_of, IsSound}

-- BEFORE
-- the parts of a started device whose power is on
pub record IsOn (m : Making) (entry : Told) (s : Parts) (listed : List (DeviceNumber × ℕ)) (kept count : ℕ) : Type 0 where
  pub sound : IsSound m entry s listed kept count false
  pub started : s.started ≡ true
  pub banks : IsBanksState s.banks
  pub log : IsLogState s.banks.log

-- the driver behind a call of the flash
pub record Drives (s f : FlsState) : Type 0 where
  -- each power cut that no plan asked for is counted
  pub counted : CountsUnplanned s.flash f.flash
  pub only : f ≡ record s { flash = f.flash; result = f.result }
  pub state : IsDriverState f

-- BEHIND IT
-- with a changing operation more, of this answer, and these banks
abbrev pub operated : Op → FlashAnswer → FlsState → BanksState → Parts → Parts
operated op answer f b s = record s { fls = f; banks = b; faults = counts_fault answer s.faults; operations = s.operations ++ change_of op s.fls.flash answer ∷ [] }

-- the job ended, and gave nothing
abbrev pub ended_as : JobResult → Parts → Parts
ended_as result s = record s { job = None; last = result; given = 0 }

-- it turned as a memory device does, and its parts are sound
pub record Turned (m : Making) (entry : Told) (answer : DeviceTurn) (s t : Parts) (listed : List (DeviceNumber × ℕ)) (kept count : ℕ) (is_off : Bool) : Type 0 where
  pub turns : Turns answer (told_of (device_of m entry s)) (clock_of (device_of m entry s)) (told_of (device_of m entry t)) (clock_of (device_of m entry t))
  pub sound : IsSound m entry t listed kept count is_off
  pub takes : TakesTurn answer (device_of m entry s) (device_of m entry t)
