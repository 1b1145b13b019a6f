-- The turn in which it was read.
use Rattle.std.specs.Prelude.{IfSome}
use Rattle.std.proofs.Common.{◌≡◌, inl, ◌+◌, ℕ, Bool, true, false, List, Some, None, refl, sym, ◌∙◌, arith, ap}
use Rattle.nv_base.specs.declared.instance.DeviceNumber.{DeviceNumber}
use Rattle.memif.specs.declared.answer.DeviceTurn.TheVariants as turn
use Rattle.fls_model.specs.Told.{Told}
use Rattle.fee_switch_laws.specs.fee_log.Log.{LogState, work_in}
use Rattle.fee_course.specs.declared.course.Course.{Course}
use Rattle.fee_switch_laws.specs.fee_switch.Banks.{BanksState, left_of}
use Rattle.fee_switch_laws.specs.KeepsRoom.{KeepsRoom}
use Rattle.promise_device.specs.Making.{Making}
use Rattle.fee_told.specs.Device.{clock_of}
use Rattle.fee_laws.specs.Inside.{Parts, device_of, IsActiveOf, IsAtWork, HasSwitch, is_copying}
use Rattle.fee_laws.specs.Turn.{Turned}
use Rattle.fee_laws.specs.Switches.{IsBehind}
use Rattle.fee_laws.proofs.Appended.{idle_at_work}
use Rattle.fee_laws.proofs.SwitchFigures.{work_none}
use Rattle.fls_jobs.specs.declared.answer.FlsResult.{FlsResult}
use Rattle.fee_laws.specs.Turn.{IsOn}
use Rattle.fee_laws.proofs.SwitchNearer.{switch_is_open, Seals, IsNearer, is_nearer, no_read, fewer, one_taken, job_goes_on, readies}
use Rattle.fee_laws.proofs.SwitchRead.{Reading, none, facts_then, keeping as kept_read}
use Rattle.fee_laws.proofs.BehindNone.{Facts, worked}

module _ (m : Making) (entry : Told) (s : Parts) (listed : List (DeviceNumber × ℕ)) (kept count : ℕ) (c : Course) (course_is : s.banks.course ≡ Some c) (on : IsOn m entry s listed kept count) (idle : work_in s.banks.log.tail ≡ None) (behind_is : IfSome s.job (IsBehind s.banks)) (fls_result : FlsResult) (c' : Course) (flags : List Bool) (log : LogState) (buffer : List ℕ) where
  abbrev pub b : BanksState
  b = record s.banks { course = Some c'; log = record s.banks.log { flags = flags }; copies = log; buffer = buffer }

  abbrev pub t : Parts
  t = record s { fls = record s.fls { flash = record s.fls.flash { faults = s.fls.flash.faults }; result = fls_result }; banks = b }

  -- what its kind shows
  pub record Goes : Type 0 where
    pub seals : Seals c c'
    pub copies : is_copying (Some c) ≡ true
    pub room : KeepsRoom m.reserve b
    pub lower : left_of b + 1 ≡ left_of s.banks
    pub active : IsActiveOf b b.active
    pub reading : Reading m entry s listed kept count c course_is on idle s.fls.flash.faults fls_result s.faults (omega arith) (inl refl) b c' refl s.job s.last s.given

  module _ (goes : Goes) where
    was_at_work : IsAtWork m s
    was_at_work = on.sound.works on.started

    near : IsNearer m s c c' flags log buffer course_is idle behind_is was_at_work.ready goes.seals
    near = is_nearer m s c c' flags log buffer course_is idle behind_is was_at_work.ready goes.seals goes.lower

    switch_then : HasSwitch b b.course
    switch_then = (goes.room.switch.worn, goes.room.switch.going)

    facts : Facts m entry s listed kept count on t (none m entry s listed kept count c course_is on idle s.fls.flash.faults fls_result s.faults (omega arith) (inl refl) b c' refl s.job s.last s.given)
    facts =
        facts_then m entry s listed kept count c course_is on idle s.fls.flash.faults fls_result s.faults (omega arith) (inl refl) b c' refl s.job s.last s.given goes.reading goes.copies (record { geometry = refl; banks = refl; numbers = refl }) on.sound.made_for.given on.sound.made_for.ended
        (work_none m s.content b s.job s.last s.given c' (record { geometry = on.sound.made_for.banks_geometry; shared = on.sound.made_for.shared; numbers = on.sound.made_for.numbers }) refl idle switch_then near.none was_at_work.job)
        (idle_at_work m t idle goes.active was_at_work.job near.ready switch_then) goes.room

    pub went_read : Turned m entry turn.Worked s t listed kept count false
    went_read = worked m entry s listed kept count on t (none m entry s listed kept count c course_is on idle s.fls.flash.faults fls_result s.faults (omega arith) (inl refl) b c' refl s.job s.last s.given) facts (record {
      something = switch_is_open m entry s c on.started course_is;
      job_turns = job_goes_on m s c c' flags log buffer course_is idle behind_is was_at_work.ready goes.seals entry t.fls s.faults s.operations near (clock_of (device_of m entry t)) (kept_read m entry s listed kept count c course_is on idle s.fls.flash.faults fls_result s.faults (omega arith) (inl refl) b c' refl s.job s.last s.given goes.reading);
      read = λ read. (let none' = no_read s.content s.job s.last s.given near.writes in absurd (let z : true ≡ false = sym read ∙ none' in cc z));
      nearer = inl (fewer m s c c' flags log buffer course_is idle behind_is was_at_work.ready goes.seals entry t.fls s.faults s.operations near);
      ready = readies m s c c' flags log buffer course_is idle behind_is was_at_work.ready goes.seals entry t.fls s.faults s.operations near;
      seals = λ still sealing. (let is : true ≡ false = sym goes.copies ∙ sym (ap is_copying course_is) ∙ still in cc is);
      worn = inl refl;
      turn_taken = one_taken m s c c' flags log buffer course_is idle behind_is was_at_work.ready goes.seals entry t.fls s.faults s.operations near;
    })
