-- The turn in which a switch goes on.
use Rattle.std.specs.Prelude.{IsTrue}
use Rattle.std.proofs.Common.{◌≡◌, inl, ◌≤◌, ◌+◌, ℕ, Bool, false, List, Some, refl}
use Rattle.nv_base.specs.Count.{next_count}
use Rattle.nv_base.specs.declared.instance.DeviceNumber.{DeviceNumber}
use Rattle.memif.specs.declared.answer.DeviceTurn.TheVariants as turn
use Rattle.memif.specs.Clock.{Seals as LeavesSeal}
use Rattle.fls_model.specs.declared.flash.FlashAnswer.TheVariants.{Done}
use Rattle.fls_model.specs.Op.{Op}
use Rattle.fls_model.specs.Step.{IsStep}
use Rattle.fls_model.specs.Told.{Told}
use Rattle.fls_jobs.specs.State.{FlsState}
use Rattle.fee_switch_laws.specs.fee_log.Log.{LogState}
use Rattle.fee_course.specs.declared.course.Course.{Course}
use Rattle.fee_switch_laws.specs.fee_switch.Banks.{BanksState, left_of}
use Rattle.fee_switch_laws.specs.KeepsRoom.{KeepsRoom}
use Rattle.promise_device.specs.Making.{Making}
use Rattle.promise_device.specs.Traits.{is_such}
use Rattle.fee_told.specs.Slots.{Memory}
use Rattle.fee_told.specs.fls_told.Clock.{TakesKeptPages, change_of}
use Rattle.fee_told.specs.Device.{clock_of, flash_device}
use Rattle.fee_laws.specs.Inside.{Parts, device_of, IsActiveOf, IsAtWork, HasSwitch}
use Rattle.fee_laws.specs.Work.{seal_turns}
use Rattle.fee_laws.specs.Turn.{Turned, operated}
use Rattle.fee_laws.specs.Switches.{IsStepping}
use Rattle.fee_laws.proofs.Behind.{Facts}
use Rattle.fee_laws.proofs.Turning.{worked}
use Rattle.fee_laws.proofs.Appended.{idle_at_work}
use Rattle.fee_laws.proofs.SwitchFigures.{work_none}
use Rattle.fee_laws.proofs.Switching.{asked, not_worn, Cutting, keeps, run_on, Showing, behind, keeps_all, copies}
use Rattle.fee_laws.proofs.SwitchNearer.{switch_is_open, Seals, IsNearer, is_nearer, no_read, fewer, one_taken, job_goes_on, readies}

module _ (m : Making) (entry : Told) (s : Parts) (listed : List (DeviceNumber × ℕ)) (kept count : ℕ) (c : Course) (made : BanksState) (f : FlsState) (is : IsStepping m entry s listed kept count c made Done f) (op : Op) (step : IsStep op s.fls.flash Done f.flash) (torn : Memory) (cutting : Cutting m entry s listed kept count c made Done f is op step torn) (c' : Course) (flags : List Bool) (log : LogState) where
  abbrev pub b : BanksState
  b = record s.banks { course = Some c'; log = record s.banks.log { flags = flags }; copies = log }

  abbrev pub t : Parts
  t = operated op Done f b s

  -- what its kind shows
  pub record Goes : Type 0 where
    pub seals : Seals c c'
    pub sealed : IsTrue (is_such m LeavesSeal (change_of op s.fls.flash Done)) → 1 ≤ seal_turns (Some c')
    pub takes : TakesKeptPages op Done (flash_device (device_of m entry s))
    pub room : KeepsRoom m.reserve b
    pub lower : left_of b + 1 ≡ left_of s.banks
    pub active : IsActiveOf b b.active
    pub showing : Showing m entry s listed kept count c made Done f is op step torn cutting b c' refl s.job s.last s.given

  module _ (goes : Goes) where
    was_at_work : IsAtWork m s
    was_at_work = is.on.sound.works is.on.started

    near : IsNearer m s c c' flags log s.banks.buffer is.course is.idle is.behind was_at_work.ready goes.seals
    near = is_nearer m s c c' flags log s.banks.buffer is.course is.idle is.behind was_at_work.ready goes.seals goes.lower

    switch_then : HasSwitch b b.course
    switch_then = (goes.room.switch.worn, goes.room.switch.going)

    facts : Facts m entry s listed kept count is.on op Done f is.drives (asked m entry s listed kept count c made Done f is op step) b s.job s.last s.given
    facts = record {
      ends = record { same = record { geometry = refl; banks = refl; numbers = refl }; ended = is.on.sound.made_for.ended; given_few = is.on.sound.made_for.given };
      run = run_on m entry s listed kept count c made Done f is op step torn cutting b c' refl s.job s.last s.given;
      behind = behind m entry s listed kept count c made Done f is op step torn cutting b c' refl s.job s.last s.given goes.showing;
      work = work_none m s.content b s.job s.last s.given c' (record { geometry = is.on.sound.made_for.banks_geometry; shared = is.on.sound.made_for.shared; numbers = is.on.sound.made_for.numbers }) refl is.idle switch_then near.none was_at_work.job;
      at_work = idle_at_work m t is.idle goes.active was_at_work.job near.ready switch_then;
      shut = λ since worn. absurd (not_worn m entry s listed kept count c made Done f is op step since worn);
      seals = goes.sealed;
      room = λ power. goes.room;
      copies = copies m entry s listed kept count c made Done f is op step torn cutting b c' refl s.job s.last s.given goes.showing;
    }

    pub went_on : Turned m entry turn.Worked s t listed kept (next_count count) false
    went_on =
        let asks = asked m entry s listed kept count c made Done f is op step in
        worked m entry s listed kept count is.on op Done f is.drives asks b s.job s.last s.given (keeps m entry s listed kept count c made Done f is op step torn cutting) (λ off. cc off) refl asks.cause.2 facts (record {
          something = switch_is_open m entry s c is.on.started is.course;
          no_read = no_read s.content s.job s.last s.given near.writes;
          job_turns = job_goes_on m s c c' flags log s.banks.buffer is.course is.idle is.behind was_at_work.ready goes.seals entry f s.faults t.operations near (clock_of (device_of m entry t))
              (keeps_all m entry s listed kept count c made Done f is op step torn cutting b c' refl s.job s.last s.given goes.showing);
          nearer = inl (fewer m s c c' flags log s.banks.buffer is.course is.idle is.behind was_at_work.ready goes.seals entry f s.faults t.operations near);
          ready = readies m s c c' flags log s.banks.buffer is.course is.idle is.behind was_at_work.ready goes.seals entry f s.faults t.operations near;
          takes = goes.takes;
          turn_taken = one_taken m s c c' flags log s.banks.buffer is.course is.idle is.behind was_at_work.ready goes.seals entry f s.faults t.operations near;
        })
