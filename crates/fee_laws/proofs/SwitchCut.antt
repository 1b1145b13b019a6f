-- The turn in which the power goes off within a step of a switch.
use Rattle.std.specs.Prelude.{IsTrue}
use Rattle.std.proofs.Common.{◌≡◌, ℕ, true, false, List, Option, Some, None, refl, sym, ap, ◌∙◌, subst}
use Rattle.nv_base.specs.Count.{next_count}
use Rattle.nv_base.specs.declared.instance.DeviceNumber.{DeviceNumber}
use Rattle.memif.specs.declared.answer.DeviceTurn.TheVariants as turn
use Rattle.memif.specs.Marks.{KeepsAll}
use Rattle.fls_model.specs.Op.{Op}
use Rattle.fls_model.specs.Step.{IsStep}
use Rattle.fls_model.specs.Told.{Told}
use Rattle.fls_jobs.specs.State.{FlsState}
use Rattle.fee_switch_laws.specs.fee_log.Log.{LogState}
use Rattle.fee_course.specs.declared.course.Course.{Course}
use Rattle.fee_switch_laws.specs.fee_switch.Banks.{BanksState}
use Rattle.promise_device.specs.Making.{Making, banks_of}
use Rattle.fee_image.specs.Banks.{Old}
use Rattle.fee_told.specs.Slots.{Memory, HasJob}
use Rattle.fee_told.specs.fls_told.Clock.{TakesKeptPages}
use Rattle.fee_told.specs.fls_told.Runs.{HasRun}
use Rattle.fee_told.specs.Device.{Device, tells, told_of, flash_device}
use Rattle.fee_told.proofs.Kept.{same_places}
use Rattle.fee_told.proofs.ToldBytes.{before_told}
use Rattle.fee_laws.specs.Inside.{Parts, device_of, IsAtWork, HasSwitch}
use Rattle.fee_laws.specs.Record.{IsReady}
use Rattle.fee_laws.specs.Work.{begins_next}
use Rattle.fee_laws.specs.Turn.{Turned, operated}
use Rattle.fee_laws.specs.Switches.{IsStepping, IsBehind}
use Rattle.fee_laws.proofs.Behind.{Facts, held_torn, torn_keeps}
use Rattle.fee_laws.proofs.Turning.{was_cut as turn_is_cut}
use Rattle.fee_laws.proofs.SwitchFigures.{NoneBegins, work_none}
use Rattle.fee_laws.proofs.Switching.{asked, not_worn, Cutting, keeps, run_on}
use Rattle.fls_model.specs.declared.flash.FlashAnswer.TheVariants.{Off}
use Rattle.fls_model.specs.Told.{bytes_now}
use Rattle.fee_image.specs.May.{May}
use Rattle.fee_image.specs.Copies.{copied_of}
use Rattle.fee_told.specs.SlotLaws.{IsHeld, SamePlaces}
use Rattle.fee_told.specs.Kept.{IsKept}
use Rattle.fee_laws.specs.Inside.{memory_of, flags_in, HoldsBehind}
use Rattle.fee_laws.proofs.Operation.{left}
use Rattle.fee_laws.proofs.Switching.{shows, may_in}
use Rattle.fee_laws.proofs.SwitchShown.{no_job}
use Rattle.fee_laws.proofs.SwitchNearer.{switch_is_open, all_write, no_read, each_job}
use Rattle.fee_laws.proofs.Appended.{idle_at_work}
use Rattle.fee_laws.proofs.Before.{sound_before}
use Rattle.fee_laws.proofs.PageTraits.{off_seals}

module _ (m : Making) (entry : Told) (s : Parts) (listed : List (DeviceNumber × ℕ)) (kept count : ℕ) (c : Course) (made : BanksState) (f : FlsState) (is : IsStepping m entry s listed kept count c made Off f) (op : Op) (step : IsStep op s.fls.flash Off f.flash) (torn : Memory) (cutting : Cutting m entry s listed kept count c made Off f is op step torn) (same_old : torn.old ≡ (memory_of s).old) (stands : torn.stand ≡ (memory_of s).stand) (log : LogState) where
  abbrev pub b : BanksState
  b = record s.banks { copies = log }

  abbrev pub t : Parts
  t = operated op Off f b s

  abbrev e : Device
  e = device_of m entry t

  places : SamePlaces torn.old (memory_of s).old
  places = subst (λ (o : Old). SamePlaces torn.old o) same_old (same_places torn.old)

  went_off : f.flash.off ≡ true
  went_off = (asked m entry s listed kept count c made Off f is op step).cause.2

  kept_at : (old new : List ℕ) → bytes_now s.fls.flash ≡ Some old → bytes_now f.flash ≡ Some new → IsTrue (tells (device_of m entry s)) → IsKept (banks_of m) m.numbers old new (memory_of s) torn (copied_of (flags_in m s old))
  kept_at old new at_old at_new told =
      let both = left m entry s listed kept count is.on op Off f is.drives (asked m entry s listed kept count c made Off f is op step) old new at_old at_new in
      cutting old new (sound_before m entry s listed kept count is.on old at_old told) (shows m entry s listed kept count c made Off f is op step old at_old told) both.0

  abbrev more : May
  more = may_in m s (bytes_now s.fls.flash)

  more_is : (old : List ℕ) → bytes_now s.fls.flash ≡ Some old → more ≡ copied_of (flags_in m s old)
  more_is old at = ap (may_in m s) at

  run_then : HasRun (flash_device e)
  run_then = run_on m entry s listed kept count c made Off f is op step torn cutting b c is.course s.job s.last s.given

  behind_then : HoldsBehind e
  behind_then = held_torn m entry s listed kept count is.on op Off f is.drives (asked m entry s listed kept count c made Off f is op step) b s.job s.last s.given run_then went_off torn places stands
      (λ stand. subst (HasJob m.numbers stand) (sym same_old) (no_job m entry s listed kept count c made Off f is stand)) more
      (λ new at told.
      (let before = before_told s.fls.flash.bytes f.flash.bytes op Off new (asked m entry s listed kept count c made Off f is op step).bytes at in
      subst (λ (x : May). IsHeld (banks_of m) m.numbers new torn x) (sym (more_is before.0 before.1)) (kept_at before.0 new before.1 at told).held))

  keeping : KeepsAll (told_of (device_of m entry s)) (told_of e)
  keeping = torn_keeps m entry s listed kept count is.on op Off f is.drives (asked m entry s listed kept count c made Off f is op step) b s.job s.last s.given run_then torn places stands (λ old new told n. (kept_at old new told.1 told.2 told.0).keeps n)

  -- THE PARTS
  was_at_work : IsAtWork m s
  was_at_work = is.on.sound.works is.on.started

  none_then : NoneBegins b s.job
  none_then = each_job (IsBehind s.banks) (λ j. begins_next s.banks j ≡ false) s.job (λ j x. x.1) is.behind

  switch_by : (o : Option Course) → HasSwitch s.banks o → HasSwitch b o
  switch_by None has = has
  switch_by (Some x) has = (has.0, has.1)

  facts : Facts m entry s listed kept count is.on op Off f is.drives (asked m entry s listed kept count c made Off f is op step) b s.job s.last s.given
  facts = record {
    ends = record { same = record { geometry = refl; banks = refl; numbers = refl }; ended = is.on.sound.made_for.ended; given_few = is.on.sound.made_for.given };
    run = run_then;
    behind = behind_then;
    work = work_none m s.content b s.job s.last s.given c (record { geometry = is.on.sound.made_for.banks_geometry; shared = is.on.sound.made_for.shared; numbers = is.on.sound.made_for.numbers }) is.course is.idle (switch_by s.banks.course was_at_work.switch) none_then was_at_work.job;
    at_work = idle_at_work m t is.idle was_at_work.active was_at_work.job (each_job (IsReady s.banks) (IsReady b) s.job (λ j x. x) was_at_work.ready) (switch_by s.banks.course was_at_work.switch);
    shut = λ since worn. absurd (not_worn m entry s listed kept count c made Off f is op step since worn);
    seals = λ sealed. absurd (off_seals m op sealed);
    room = λ power. (let off = went_off in absurd (let z : true ≡ false = sym off ∙ power in cc z));
    copies = λ power told. (let off = went_off in absurd (let z : true ≡ false = sym off ∙ power in cc z));
  }

  pub was_cut : TakesKeptPages op Off (flash_device (device_of m entry s)) → Turned m entry turn.Off s t listed kept (next_count count) true
  was_cut takes = turn_is_cut m entry s listed kept count is.on op f is.drives (asked m entry s listed kept count c made Off f is op step) b (keeps m entry s listed kept count c made Off f is op step torn cutting) takes facts
      (switch_is_open m entry s c is.on.started is.course) (no_read s.content s.job s.last s.given (all_write s.banks s.job is.behind)) keeping
