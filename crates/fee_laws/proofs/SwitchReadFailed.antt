-- The turn in which it wasn't read.
use Rattle.std.specs.Prelude.{IfSome}
use Rattle.std.proofs.Common.{◌≡◌, ◌≢◌, inl, inr, ◌≤◌, ℕ, Bool, true, false, List, Some, None, refl, sym, ◌∙◌, ap}
use Rattle.nv_base.specs.Count.{next_count}
use Rattle.nv_base.specs.declared.instance.DeviceNumber.{DeviceNumber}
use Rattle.memif.specs.declared.answer.DeviceTurn.TheVariants as turn
use Rattle.memif.specs.declared.answer.JobResult.{JobResult}
use Rattle.fls_model.specs.Told.{Told}
use Rattle.fee_switch_laws.specs.fee_log.Log.{LogState, work_in}
use Rattle.fee_course.specs.declared.course.Course.{Course}
use Rattle.fee_switch_laws.specs.fee_switch.Banks.{BanksState}
use Rattle.nv_base.specs.declared.job.DeviceOp.TheVariants.{Read}
use Rattle.fee_switch_laws.specs.KeepsRoom.{KeepsRoom}
use Rattle.promise_device.specs.Making.{Making}
use Rattle.fee_told.specs.Device.{told_of, clock_of}
use Rattle.fee_told.proofs.Counted.{rose_next}
use Rattle.fee_laws.specs.Inside.{Parts, device_of, IsActiveOf, HasSwitch, is_copying}
use Rattle.fee_laws.specs.Turn.{Turned}
use Rattle.fee_laws.specs.Switches.{IsBehind}
use Rattle.fee_laws.proofs.Appended.{idle_at_work}
use Rattle.fee_laws.proofs.SwitchFigures.{work_none}
use Rattle.nv_base.specs.Count.{Rose}
use Rattle.fee_laws.proofs.SwitchNearer.{switch_is_open, all_write, no_read}
use Rattle.fls_jobs.specs.declared.answer.FlsResult.{FlsResult}
use Rattle.fee_laws.specs.Turn.{IsOn}
use Rattle.fee_laws.proofs.SwitchFailed.{last_by, given_by, last_ends, given_few, turns_fail}
use Rattle.fee_laws.proofs.SwitchRead.{Reading, none, facts_then, keeping as kept_read}
use Rattle.fee_laws.proofs.BehindNone.{Facts, worked}

module _ (m : Making) (entry : Told) (s : Parts) (listed : List (DeviceNumber × ℕ)) (kept count : ℕ) (c : Course) (course_is : s.banks.course ≡ Some c) (on : IsOn m entry s listed kept count) (idle : work_in s.banks.log.tail ≡ None) (behind_is : IfSome s.job (IsBehind s.banks)) (flash_faults : ℕ) (fls_result : FlsResult) (more : s.fls.flash.faults ≤ flash_faults) (rose_flash : Rose s.fls.flash.faults flash_faults) (c' : Course) (flags : List Bool) (log : LogState) (buffer : List ℕ) where
  abbrev pub b : BanksState
  b = record s.banks { course = Some c'; log = record s.banks.log { flags = flags }; copies = log; buffer = buffer }

  abbrev pub last : JobResult
  last = last_by s.job s.last

  abbrev pub given : ℕ
  given = given_by s.job s.given

  abbrev pub t : Parts
  t = record s { fls = record s.fls { flash = record s.fls.flash { faults = flash_faults }; result = fls_result }; banks = b; job = None; last = last; given = given; faults = next_count s.faults }

  -- what its kind shows
  pub record Falls : Type 0 where
    pub copies : is_copying (Some c) ≡ true
    pub room : KeepsRoom m.reserve b
    pub active : IsActiveOf b b.active
    pub reading : Reading m entry s listed kept count c course_is on idle flash_faults fls_result (next_count s.faults) more (inr (refl, rose_flash)) b c' refl None last given

  module _ (falls : Falls) where
    switch_then : HasSwitch b b.course
    switch_then = (falls.room.switch.worn, falls.room.switch.going)

    facts : Facts m entry s listed kept count on t (none m entry s listed kept count c course_is on idle flash_faults fls_result (next_count s.faults) more (inr (refl, rose_flash)) b c' refl None last given)
    facts =
        facts_then m entry s listed kept count c course_is on idle flash_faults fls_result (next_count s.faults) more (inr (refl, rose_flash)) b c' refl None last given falls.reading falls.copies (record { geometry = refl; banks = refl; numbers = refl }) (given_few s.job s.given on.sound.made_for.given) (last_ends s.job s.last on.sound.made_for.ended)
        (work_none m s.content b None last given c' (record { geometry = on.sound.made_for.banks_geometry; shared = on.sound.made_for.shared; numbers = on.sound.made_for.numbers }) refl idle switch_then tt tt) (idle_at_work m t idle falls.active tt tt switch_then) falls.room

    rose : Rose s.faults (next_count s.faults)
    rose = rose_next s.faults on.sound.device.faults

    writes : IfSome s.job (λ j. j.op ≢ Read)
    writes = all_write s.banks s.job behind_is

    pub failed_read : Turned m entry turn.Worked s t listed kept count false
    failed_read = worked m entry s listed kept count on t (none m entry s listed kept count c course_is on idle flash_faults fls_result (next_count s.faults) more (inr (refl, rose_flash)) b c' refl None last given) facts (record {
      something = switch_is_open m entry s c on.started course_is;
      job_turns = turns_fail s.content s.job s.last s.given (told_of (device_of m entry s)) (told_of (device_of m entry t)) (clock_of (device_of m entry t)) writes (kept_read m entry s listed kept count c course_is on idle flash_faults fls_result (next_count s.faults) more (inr (refl, rose_flash)) b c' refl None last given falls.reading) rose;
      read = λ read. (let none' = no_read s.content s.job s.last s.given writes in absurd (let z : true ≡ false = sym read ∙ none' in cc z));
      nearer = inr rose;
      ready = λ calm. absurd (calm.faults rose);
      seals = λ still sealing. (let is : true ≡ false = sym falls.copies ∙ sym (ap is_copying course_is) ∙ still in cc is);
      worn = inl refl;
      turn_taken = inl rose;
    })
