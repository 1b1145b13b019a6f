-- A job is canceled, with or without a record in work.
use Rattle.std.specs.Prelude.{is_some, if◌then◌else◌}
use Rattle.std.proofs.Common.{◌≡◌, ℕ, Bool, true, false, List, Option, Some, None, refl, sym, subst}
use Rattle.nv_base.specs.declared.instance.DeviceNumber.{DeviceNumber}
use Rattle.nv_base.specs.Geometry.{IsLegal}
use Rattle.memif.specs.Told.{IfElse, is_open}
use Rattle.memif.specs.Calls.{Cancels, IsCanceled}
use Rattle.fls_model.specs.Told.{Told}
use Rattle.fee_format.specs.declared.rec_head.RecHead.{RecHead}
use Rattle.fee_switch_laws.specs.fee_log.Log.{work_in}
use Rattle.fee_switch_laws.specs.fee_log.Step.{given_up}
use Rattle.fee_switch_laws.specs.fee_switch.Banks.{BanksState}
use Rattle.promise_device.specs.Making.{Making}
use Rattle.fee_told.proofs.Clocks.{clocks_stay}
use Rattle.fee_told.specs.Device.{Device, told_of, clock_of, flash_device}
use Rattle.fee_told.specs.SlotLaws.{SamePlaces}
use Rattle.fee_told.proofs.Kept.{same_places}
use Rattle.fee_laws.specs.declared.job.FeeJob.{FeeJob}
use Rattle.fee_laws.specs.Inside.{Parts, device_of, memory_of, stand_of, IsSound}
use Rattle.fee_laws.specs.CallLaws.{MayCancel, JobsCancel, NoneCancels}
use Rattle.fee_laws.specs.Parts.{canceled, without_work}
use Rattle.fee_laws.proofs.Ending.{Ends, ended_sound, ended_as, ended_stays, ends as idle_ends}
use Rattle.fee_laws.proofs.Stopping.{places as record_places, ends as record_ends}
use Rattle.fee_laws.proofs.MadeFor.{legal_made}

started_by : (started : Bool) (job : Option FeeJob) (j : FeeJob) → (started ≡ false → job ≡ None) → job ≡ Some j → started ≡ true
started_by true job j rests is = refl
started_by false job j rests is = (let none = rests refl in cc (none, is))

none_by : (o : Option RecHead) → is_some o ≡ false → o ≡ None
none_by None is = refl
none_by (Some h) is = cc is

-- WITH NONE OPEN
pub none_cancels : NoneCancels
none_cancels m entry s listed kept count is_off sound shut =
    let d : Device = device_of m entry s in (
      subst (λ (o : Option FeeJob). IfElse (is_open (stand_of s.content o s.last s.given)) (IsCanceled (told_of d) (told_of d)) (told_of d ≡ told_of d)) (sym shut) refl,
      record { same = clocks_stay (flash_device d) (flash_device d) (record { reading = refl; entry = refl; operations = refl; bytes = refl }) (λ n. refl); order = sound.device.order },
    )

-- AN OPEN JOB
module _ (m : Making) (entry : Told) (s : Parts) (listed : List (DeviceNumber × ℕ)) (kept count : ℕ) (is_off : Bool) (sound : IsSound m entry s listed kept count is_off) (j : FeeJob) (may : MayCancel s j) where
  abbrev d : Device
  d = device_of m entry s

  started : s.started ≡ true
  started = started_by s.started s.job j (λ off. (sound.rests off).job) may.job

  abbrev Ended : Parts → Type 0
  Ended t = IsSound m entry t listed kept count is_off × Cancels (told_of d) (clock_of d) (told_of (device_of m entry t)) (clock_of (device_of m entry t))

  ended : (b : BanksState) (places : SamePlaces (memory_of s).old (memory_of (canceled b s)).old) (legal : IsLegal m.geometry) → Ends m entry s listed kept count is_off sound started b places legal → Ended (canceled b s)
  ended b places legal ends =
      let t : Device = device_of m entry (canceled b s) in (
        ended_sound m entry s listed kept count is_off sound started b places legal ends,
        (
          subst (λ (o : Option FeeJob). IfElse (is_open (stand_of s.content o s.last s.given)) (IsCanceled (told_of d) (told_of t)) (told_of t ≡ told_of d)) (sym may.job)
              (ended_as m entry s listed kept count is_off sound started b places legal ends),
          ended_stays m entry s listed kept count is_off sound started b places legal ends,
        ),
      )

  ended_by : (work : Bool) → is_some (work_in s.banks.log.tail) ≡ work → Ended (canceled (if work then record s.banks { log = given_up s.banks.log } else s.banks) s)
  ended_by true is =
      ended (record s.banks { log = given_up s.banks.log }) (record_places m entry s listed kept count is_off sound started may.banks j may.job may.calm is) (legal_made m s sound.made_for may.banks)
      (record_ends m entry s listed kept count is_off sound started may.banks j may.job may.calm is)
  ended_by false is =
      let idle = none_by (work_in s.banks.log.tail) is in
      ended s.banks (same_places (memory_of s).old) (legal_made m s sound.made_for may.banks) (idle_ends m entry s listed kept count is_off sound started may.banks j may.job may.calm idle)

  cancels : Ended (canceled (without_work s.banks) s)
  cancels = ended_by (is_some (work_in s.banks.log.tail)) refl

pub jobs_cancel : JobsCancel
jobs_cancel m entry s listed kept count is_off j sound may = cancels m entry s listed kept count is_off sound j may
