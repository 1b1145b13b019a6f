-- The turn in which a step of a switch fails, and a job that waits with it.
use Rattle.std.specs.Prelude.{IfSome, IsTrue, take}
use Rattle.std.proofs.Common.{◌≡◌, ◌≢◌, inl, inr, ◌≤◌, ℕ, Bool, false, List, Option, Some, None, refl, arith}
use Rattle.nv_base.specs.Count.{next_count}
use Rattle.nv_base.specs.declared.instance.DeviceNumber.{DeviceNumber}
use Rattle.memif.specs.declared.answer.DeviceTurn.TheVariants as turn
use Rattle.memif.specs.declared.answer.JobResult.{JobResult}
use Rattle.memif.specs.declared.answer.JobResult.TheVariants.{JobFailed}
use Rattle.memif.specs.Told.{First, DeviceTold}
use Rattle.memif.specs.Clock.{Clock, Seals}
use Rattle.memif.specs.Marks.{KeepsAll}
use Rattle.memif.specs.Calls.{JobTurns}
use Rattle.fls_model.specs.Op.{Op}
use Rattle.fls_model.specs.Step.{IsStep}
use Rattle.fls_model.specs.Told.{Told}
use Rattle.fls_jobs.specs.State.{FlsState}
use Rattle.fee_switch_laws.specs.fee_log.Log.{LogState}
use Rattle.fee_course.specs.declared.course.Course.{Course}
use Rattle.fee_switch_laws.specs.fee_switch.Banks.{BanksState}
use Rattle.nv_base.specs.declared.job.DeviceOp.TheVariants.{Read}
use Rattle.fee_switch_laws.specs.KeepsRoom.{KeepsRoom}
use Rattle.promise_device.specs.Making.{Making}
use Rattle.promise_device.specs.Traits.{is_such}
use Rattle.fee_told.specs.Slots.{Memory}
use Rattle.fee_told.specs.fls_told.Clock.{TakesKeptPages, change_of}
use Rattle.fee_told.specs.Device.{told_of, clock_of, flash_device}
use Rattle.fee_told.proofs.Counted.{rose_next}
use Rattle.fee_laws.specs.declared.job.FeeJob.{FeeJob}
use Rattle.fee_laws.specs.Inside.{Parts, device_of, stand_of, IsActiveOf, HasSwitch}
use Rattle.fee_laws.specs.Work.{seal_turns}
use Rattle.fee_laws.specs.Turn.{Turned, operated}
use Rattle.fee_laws.specs.Switches.{IsStepping}
use Rattle.fee_laws.proofs.Behind.{Facts}
use Rattle.fee_laws.proofs.Turning.{fails_as, worked}
use Rattle.fee_laws.proofs.Appended.{idle_at_work}
use Rattle.fee_laws.proofs.SwitchFigures.{work_none}
use Rattle.fee_laws.proofs.Switching.{asked, not_worn, Cutting, keeps, run_on, Showing, behind, keeps_all, copies}
use Rattle.nv_base.specs.Count.{Rose}
use Rattle.memif.specs.declared.answer.JobResult.TheVariants.{JobPending}
use Rattle.fls_model.specs.declared.flash.FlashAnswer.TheVariants.{Failed}
use Rattle.fee_told.specs.SlotLaws.{GoesOn}
use Rattle.fee_laws.specs.Switches.{failed_with}
use Rattle.fee_laws.proofs.SwitchNearer.{switch_is_open, all_write, no_read}

-- THE JOB THAT WAITED
abbrev pub last_by : Option FeeJob → JobResult → JobResult
last_by None last = last
last_by (Some j) last = JobFailed

abbrev pub given_by : Option FeeJob → ℕ → ℕ
given_by None given = given
given_by (Some j) given = 0

pub failed_is : (o : Option FeeJob) (x : Parts) → x.job ≡ o → failed_with o x ≡ record x { job = None; last = last_by o x.last; given = given_by o x.given }
failed_is None x e = λ i. record x { job = e i }
failed_is (Some j) x e = refl

pub last_ends : (o : Option FeeJob) (last : JobResult) → last ≢ JobPending → last_by o last ≢ JobPending
last_ends None last ended = ended
last_ends (Some j) last ended = λ same. cc same

pub given_few : (o : Option FeeJob) (given : ℕ) → given ≤ 4096 → given_by o given ≤ 4096
given_few None given few = few
given_few (Some j) given few = omega arith

-- it ends, and no record was in work
pub stand_goes : (content : List ℕ) (o : Option FeeJob) (last : JobResult) (given : ℕ) → GoesOn (stand_of content o last given) (stand_of content None (last_by o last) (given_by o given))
stand_goes content None last given = inl refl
stand_goes content (Some j) last given = inr refl

pub turns_fail : (content : List ℕ) (o : Option FeeJob) (last : JobResult) (given : ℕ) (old new : DeviceTold) (clock : Clock) → IfSome o (λ j. j.op ≢ Read) → KeepsAll old new → Rose old.first.faults new.first.faults
    → JobTurns First (stand_of content o last given) (stand_of content None (last_by o last) (given_by o given)) old new clock
turns_fail content None last given old new clock writes all rose = (refl, all)
turns_fail content (Some j) last given old new clock writes all rose = (fails_as j.op (take j.length content) j.number.0 old new writes all, λ failed. inl rose)

module _ (m : Making) (entry : Told) (s : Parts) (listed : List (DeviceNumber × ℕ)) (kept count : ℕ) (c : Course) (made : BanksState) (f : FlsState) (is : IsStepping m entry s listed kept count c made Failed f) (op : Op) (step : IsStep op s.fls.flash Failed f.flash) (torn : Memory) (cutting : Cutting m entry s listed kept count c made Failed f is op step torn) (c' : Course) (flags : List Bool) (log : LogState) where
  abbrev pub b : BanksState
  b = record s.banks { course = Some c'; log = record s.banks.log { flags = flags }; copies = log }

  abbrev pub last : JobResult
  last = last_by s.job s.last

  abbrev pub given : ℕ
  given = given_by s.job s.given

  abbrev pub t : Parts
  t = record (operated op Failed f b s) { job = None; last = last; given = given }

  -- what its kind shows
  pub record Falls : Type 0 where
    pub sealed : IsTrue (is_such m Seals (change_of op s.fls.flash Failed)) → 1 ≤ seal_turns (Some c')
    pub takes : TakesKeptPages op Failed (flash_device (device_of m entry s))
    pub room : KeepsRoom m.reserve b
    pub active : IsActiveOf b b.active
    pub showing : Showing m entry s listed kept count c made Failed f is op step torn cutting b c' refl None last given

  module _ (falls : Falls) where
    switch_then : HasSwitch b b.course
    switch_then = (falls.room.switch.worn, falls.room.switch.going)

    facts : Facts m entry s listed kept count is.on op Failed f is.drives (asked m entry s listed kept count c made Failed f is op step) b None last given
    facts = record {
      ends = record { same = record { geometry = refl; banks = refl; numbers = refl }; ended = last_ends s.job s.last is.on.sound.made_for.ended; given_few = given_few s.job s.given is.on.sound.made_for.given };
      run = run_on m entry s listed kept count c made Failed f is op step torn cutting b c' refl None last given;
      behind = behind m entry s listed kept count c made Failed f is op step torn cutting b c' refl None last given falls.showing;
      work = work_none m s.content b None last given c' (record { geometry = is.on.sound.made_for.banks_geometry; shared = is.on.sound.made_for.shared; numbers = is.on.sound.made_for.numbers }) refl is.idle switch_then tt tt;
      at_work = idle_at_work m t is.idle falls.active tt tt switch_then;
      shut = λ since worn. absurd (not_worn m entry s listed kept count c made Failed f is op step since worn);
      seals = falls.sealed;
      room = λ power. falls.room;
      copies = copies m entry s listed kept count c made Failed f is op step torn cutting b c' refl None last given falls.showing;
    }

    rose : Rose s.faults (next_count s.faults)
    rose = rose_next s.faults is.on.sound.device.faults

    writes : IfSome s.job (λ j. j.op ≢ Read)
    writes = all_write s.banks s.job is.behind

    pub failed : Turned m entry turn.Worked s t listed kept (next_count count) false
    failed =
        let asks = asked m entry s listed kept count c made Failed f is op step in
        worked m entry s listed kept count is.on op Failed f is.drives asks b None last given (keeps m entry s listed kept count c made Failed f is op step torn cutting) (λ off. cc off) refl asks.cause.2 facts (record {
          something = switch_is_open m entry s c is.on.started is.course;
          no_read = no_read s.content s.job s.last s.given writes;
          job_turns = turns_fail s.content s.job s.last s.given (told_of (device_of m entry s)) (told_of (device_of m entry t)) (clock_of (device_of m entry t)) writes (keeps_all m entry s listed kept count c made Failed f is op step torn cutting b c' refl None last given falls.showing) rose;
          nearer = inr rose;
          ready = λ calm. absurd (calm.faults rose);
          takes = falls.takes;
          turn_taken = inl rose;
        })
