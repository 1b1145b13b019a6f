-- What a page leaves that moves no place.
use Rattle.std.specs.Prelude.{IfSome}
use Rattle.std.proofs.Common.{◌≡◌, ◌≢◌, ℕ, Bool, List, [], Option, Some, None, refl, sym, ap, ◌∙◌, subst, arith}
use Rattle.nv_base.specs.declared.instance.DeviceNumber.{DeviceNumber}
use Rattle.memif.specs.declared.answer.JobResult.{JobResult}
use Rattle.memif.specs.declared.answer.JobResult.TheVariants.{JobPending}
use Rattle.memif.specs.Marks.{KeepsAll}
use Rattle.fls_model.specs.declared.flash.FlashAnswer.{FlashAnswer}
use Rattle.fls_model.specs.Op.{MayLeave}
use Rattle.fls_model.specs.Step.{IsAsked, OffOrAsked, Leaves}
use Rattle.fls_model.specs.Told.{Told, bytes_now}
use Rattle.fls_jobs.specs.State.{FlsState}
use Rattle.fee_image.specs.Image.{Layout}
use Rattle.fee_image.specs.May.{May}
use Rattle.fee_image.specs.Copies.{Flag, copied_of}
use Rattle.fee_switch_laws.specs.fee_log.Index.{clear_flags}
use Rattle.fee_switch_laws.specs.fee_log.Log.{work_in}
use Rattle.fee_switch_laws.specs.fee_log.Step.{after_step}
use Rattle.fee_course.specs.declared.course.Course.{Course}
use Rattle.fee_switch_laws.specs.fee_switch.Banks.{BanksState}
use Rattle.fee_switch_laws.specs.KeepsRoom.{KeepsRoom}
use Rattle.fee_switch_laws.proofs.RoomAppends.{pages_keep_room}
use Rattle.promise_device.specs.Making.{Making, banks_of}
use Rattle.fee_told.specs.SlotLaws.{IsHeld}
use Rattle.fee_told.specs.fls_told.Runs.{HasRun, KeepsWorn}
use Rattle.fee_told.specs.Device.{Device, told_of, flash_device}
use Rattle.fee_told.specs.Kept.{IsKept}
use Rattle.fee_told.specs.Whole.{CutsKeep}
use Rattle.fee_told.proofs.Whole.{kept_is_told, told_behind}
use Rattle.fee_told.proofs.ToldBytes.{before_told, now_at}
use Rattle.fee_laws.specs.declared.job.FeeJob.{FeeJob}
use Rattle.fee_laws.specs.Copied.{flags_of, IsCopying}
use Rattle.fee_laws.specs.Inside.{Parts, device_of, memory_of, stand_of, flags_in, IsActiveOf, IsAtWork, HasSwitch, ShowsCopies, HoldsBehind, TellsCopies}
use Rattle.fee_laws.specs.Appends.{IsAppending, work_op, after_page}
use Rattle.fee_laws.proofs.Appended.{has_switch, flags_clear, resting_work, idle_at_work}
use Rattle.fee_laws.proofs.Before.{power, copied, each_now, held_before, copies_before}
use Rattle.fee_laws.proofs.Operation.{left, run, worn_by, started, are_told}
use Rattle.fee_laws.proofs.Behind.{Facts, held_behind}
use Rattle.fee_laws.proofs.Page.{active_is, at_work, cut_keeps, formats, keeps_last}
use Rattle.fee_laws.proofs.Copies.{settled_stays}
use Rattle.fee_laws.proofs.PageTraits.{record_seals}

module _ (m : Making) (entry : Told) (s : Parts) (listed : List (DeviceNumber × ℕ)) (kept count : ℕ) (answer : FlashAnswer) (f : FlsState) (is : IsAppending m entry s listed kept count answer f) where
  abbrev pub l : Layout
  l = banks_of m

  pub asked : IsAsked (work_op s) s.fls.flash answer f.flash
  asked = subst (λ (b : Bool). OffOrAsked b (work_op s) s.fls.flash answer f.flash) (power m entry s listed kept count is.on) is.step

  pub keeps : CutsKeep (work_op s) (device_of m entry s)
  keeps = cut_keeps m entry s listed kept count is.on is.work is.page.size

  abbrev b : BanksState
  b = record s.banks { log = after_step s.banks.log answer }

  module _ (job : Option FeeJob) (last : JobResult) (given : ℕ) where
    abbrev pub t : Parts
    t = record (after_page answer f s) { job = job; last = last; given = given }

    abbrev d : Device
    d = device_of m entry s

    abbrev e : Device
    e = device_of m entry t

    stays_worn : KeepsWorn (work_op s) (flash_device d) (flash_device e)
    stays_worn = worn_by m entry s listed kept count is.on (work_op s) answer f is.drives asked keeps t.banks job last given refl (keeps_last m entry s listed kept count is.on is.work is.page.size)

    pub run_on : HasRun (flash_device e)
    run_on = run m entry s listed kept count is.on (work_op s) answer f is.drives asked keeps t.banks job last given stays_worn

    abbrev pub Keeping : Type 0
    Keeping = (old new : List ℕ) (more : May) → IsHeld l m.numbers old (memory_of s) more → MayLeave (work_op s) old new → Leaves (work_op s) answer old new → IsKept l m.numbers old new (memory_of s) (memory_of t) more

    module _ (keeping : Keeping) (places : (after_step s.banks.log answer).places ≡ s.banks.log.places) (flags : (after_step s.banks.log answer).flags ≡ s.banks.log.flags) where
      kept_at : (old new : List ℕ) → bytes_now s.fls.flash ≡ Some old → bytes_now f.flash ≡ Some new → (more : May) → IsHeld l m.numbers old (memory_of s) more → IsKept l m.numbers old new (memory_of s) (memory_of t) more
      kept_at old new at_old at_new more held =
          let both = left m entry s listed kept count is.on (work_op s) answer f is.drives asked old new at_old at_new in
          keeping old new more held both.0 both.1

      abbrev more : May
      more = copied m entry s listed kept count is.on

      pub behind : HoldsBehind e
      behind = held_behind m entry s listed kept count is.on (work_op s) answer f is.drives asked t.banks job last given run_on more
          (λ new at told.
          (let before = before_told s.fls.flash.bytes f.flash.bytes (work_op s) answer new asked.bytes at in
          (kept_at before.0 new before.1 at more (held_before m entry s listed kept count is.on before.0 before.1 told)).held))

      pub keeps_all : KeepsAll (told_of d) (told_of e)
      keeps_all = kept_is_told d e more (started m entry s listed kept count is.on (work_op s) answer f is.drives asked keeps t.banks job last given run_on)
          (λ old new now. (let told = are_told d e s.operations _ old new refl now in kept_at old new told.1 told.2 more (held_before m entry s listed kept count is.on old told.1 told.0)))

      -- THE TARGET
      same_flags : (old new : List ℕ) → bytes_now s.fls.flash ≡ Some old → bytes_now f.flash ≡ Some new → (more : May) → IsHeld l m.numbers old (memory_of s) more → flags_in m t new ≡ flags_in m s old
      same_flags old new at_old at_new more held =
          let both = left m entry s listed kept count is.on (work_op s) answer f is.drives asked old new at_old at_new in
          let settled = (settled_stays m entry s listed kept count is.on is.work is.page old new more held both.0 t.banks.log (stand_of s.content job last given) places) in
          λ i. flags_of m.numbers (places i) (flags i) (settled i)

      shows_by : (old new : List ℕ) → bytes_now s.fls.flash ≡ Some old → bytes_now f.flash ≡ Some new → (c : Option Course) → IfSome c (λ x. ShowsCopies m s x old) → IfSome c (λ x. ShowsCopies m t x new)
      shows_by old new at_old at_new None shows = tt
      shows_by old new at_old at_new (Some c) shows =
          let fs = flags_in m s old in
          let same = same_flags old new at_old at_new (copied_of fs) shows.held in
          record {
            held = subst (λ (x : List Flag). IsHeld l m.numbers new (memory_of t) (copied_of x)) (sym same) (kept_at old new at_old at_new (copied_of fs) shows.held).held;
            copy = subst (λ (x : List Flag). IsCopying c (work_in s.banks.copies.tail) s.banks.buffer x) (sym same) shows.copy;
          }

      pub copies : TellsCopies m entry t
      copies on now = (let told = told_behind e s.operations _ refl now in each_now f.flash.bytes (λ (x : List ℕ). IfSome s.banks.course (λ c. ShowsCopies m t c x)) (λ new at.
          (let before = before_told s.fls.flash.bytes f.flash.bytes (work_op s) answer new asked.bytes at in
          shows_by before.0 new before.1 at s.banks.course (now_at s.fls.flash.bytes (λ (x : List ℕ). IfSome s.banks.course (λ c. ShowsCopies m s c x)) before.0 before.1 (copies_before m entry s listed kept count is.on told)))))

  -- the job ends with it, where no record is in work then
  module _ (last : JobResult) (ended : last ≢ JobPending) (idle : work_in b.log.tail ≡ None) (flags : b.log.flags ≡ s.banks.log.flags) (numbers : b.log.numbers ≡ s.banks.log.numbers) (format : b.log.format ≡ s.banks.log.format) where
    was_at_work : IsAtWork m s
    was_at_work = at_work m entry s listed kept count is.on is.work

    room_then : KeepsRoom m.reserve b
    room_then = pages_keep_room m.reserve s.banks answer (is.on.sound.room is.on.started (power m entry s listed kept count is.on)) is.work

    switch_then : HasSwitch b b.course
    switch_then = has_switch m.reserve b b.course (λ none. flags ∙ flags_clear s.banks s.banks.course was_at_work.switch none ∙ ap clear_flags (sym numbers)) room_then.switch

    active_then : IsActiveOf b b.active
    active_then = subst (IsActiveOf b) (sym (active_is m entry s listed kept count is.on is.work)) (format ∙ formats m entry s listed kept count is.on is.work)

    pub facts_ended : HoldsBehind (device_of m entry (t None last 0)) → TellsCopies m entry (t None last 0) → Facts m entry s listed kept count is.on (work_op s) answer f is.drives asked b None last 0
    facts_ended held copied' = record {
      ends = record { same = record { geometry = refl; banks = refl; numbers = numbers }; ended = ended; given_few = omega arith };
      run = run_on None last 0;
      behind = held;
      work = resting_work m b last [] (record { geometry = is.on.sound.made_for.banks_geometry; shared = is.on.sound.made_for.shared; numbers = numbers ∙ is.on.sound.made_for.numbers }) switch_then;
      at_work = idle_at_work m (t None last 0) idle active_then tt tt switch_then;
      shut = λ since worn. (is.on.sound.worn since worn).shut;
      seals = λ sealed. absurd (record_seals m entry s listed kept count answer f is sealed);
      room = λ on. room_then;
      copies = copied';
    }
