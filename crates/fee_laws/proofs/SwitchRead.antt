-- The turns in which the content is read that is copied next.
use Rattle.std.specs.Prelude.{IfSome, IsTrue}
use Rattle.std.proofs.Common.{◌≡◌, ◌≢◌, inl, ◌≤◌, ℕ, List, Option, Some, None, refl, sym, ap, subst, arith, true, false, ◌∙◌}
use Rattle.nv_base.specs.Geometry.{sectors_of_bank}
use Rattle.nv_base.specs.declared.instance.DeviceNumber.{DeviceNumber}
use Rattle.fls_model.specs.Told.{Told}
use Rattle.fls_jobs.specs.State.{FlsState}
use Rattle.fee_image.specs.May.{May}
use Rattle.fee_image.specs.Copies.{copied_of}
use Rattle.fee_switch_laws.specs.fee_log.Log.{work_in}
use Rattle.fee_course.specs.declared.course.Course.{Course}
use Rattle.fee_switch_laws.specs.fee_switch.Banks.{BanksState}
use Rattle.fee_switch_laws.specs.KeepsRoom.{KeepsRoom}
use Rattle.promise_device.specs.Making.{Making, banks_of}
use Rattle.fee_told.specs.SlotLaws.{IsHeld}
use Rattle.fee_told.specs.Kept.{IsKept}
use Rattle.fee_told.proofs.Whole.{kept_is_told}
use Rattle.fee_told.proofs.ToldBytes.{now_at}
use Rattle.fee_laws.specs.Copied.{IsCopying}
use Rattle.fee_laws.specs.Inside.{Parts, memory_of, flags_in, ShowsCopies, stand_of, is_copying}
use Rattle.fee_laws.proofs.Before.{power}
use Rattle.memif.specs.declared.answer.JobResult.{JobResult}
use Rattle.memif.specs.Marks.{KeepsAll}
use Rattle.fee_told.specs.fls_told.Runs.{HasRun}
use Rattle.fee_told.specs.Device.{Device, told_of, tells_now, flash_device}
use Rattle.fee_told.specs.FigureLaws.{IsWork}
use Rattle.fee_laws.specs.declared.job.FeeJob.{FeeJob}
use Rattle.fee_laws.specs.Inside.{device_of, IsAtWork}
use Rattle.fee_laws.specs.Work.{work_of}
use Rattle.fee_laws.specs.Turn.{IsOn}
use Rattle.memif.specs.declared.answer.JobResult.TheVariants.{JobPending}
use Rattle.fee_switch_laws.specs.fee_switch.Banks.{IsSameFlash}
use Rattle.fls_model.specs.Told.{bytes_now}
use Rattle.fee_told.specs.Whole.{AreStarted}
use Rattle.fee_laws.specs.Inside.{HoldsBehind, TellsCopies}
use Rattle.fls_jobs.specs.declared.answer.FlsResult.{FlsResult}
use Rattle.fee_laws.proofs.Before.{each_now}
use Rattle.fee_laws.proofs.Switching.{may_in}
use Rattle.fee_laws.proofs.BehindNone.{AsksNone, Counted, Facts, run, held_behind}

-- A STEP WITHOUT A CHANGING OPERATION
module _ (m : Making) (entry : Told) (s : Parts) (listed : List (DeviceNumber × ℕ)) (kept count : ℕ) (c : Course) (course_is : s.banks.course ≡ Some c) (on : IsOn m entry s listed kept count) (idle : work_in s.banks.log.tail ≡ None) (flash_faults : ℕ) (fls_result : FlsResult) (faults : ℕ) (more : s.fls.flash.faults ≤ flash_faults) (counted : Counted s.fls.flash.faults flash_faults s.faults faults)
    (b : BanksState) (c' : Course) (at' : b.course ≡ Some c') (job : Option FeeJob) (last : JobResult) (given : ℕ) where
  abbrev pub f : FlsState
  f = record s.fls { flash = record s.fls.flash { faults = flash_faults }; result = fls_result }

  abbrev pub t : Parts
  t = record s { fls = f; banks = b; job = job; last = last; given = given; faults = faults }

  abbrev d : Device
  d = device_of m entry s

  abbrev e : Device
  e = device_of m entry t

  pub shows_now : (old : List ℕ) → bytes_now s.fls.flash ≡ Some old → IsTrue (tells_now d) → ShowsCopies m s c old
  shows_now old at told =
      subst (λ (o : Option Course). IfSome o (λ x. ShowsCopies m s x old)) course_is
      (now_at s.fls.flash.bytes (λ (x : List ℕ). IfSome s.banks.course (λ y. ShowsCopies m s y x)) old at (on.sound.copies (power m entry s listed kept count on) told))

  pub not_worn' : (since : ℕ) → s.worn ≡ Some since → ⊥
  not_worn' since worn = let shut = (on.sound.worn since worn).shut in cc (shut, course_is)

  pub none : AsksNone m entry s t
  none = record { only = refl; more = more; counted = counted; worn = λ since worn. inl worn }

  run_read : HasRun (flash_device e)
  run_read = run m entry s listed kept count on t none

  -- what the bytes hold then
  abbrev pub Reading : Type 0
  Reading = (old : List ℕ) → bytes_now s.fls.flash ≡ Some old → ShowsCopies m s c old → IsKept (banks_of m) m.numbers old old (memory_of s) (memory_of t) (copied_of (flags_in m t old)) × IsCopying c' (work_in b.copies.tail) b.buffer (flags_in m t old)

  module _ (reading : Reading) where
    abbrev may : May
    may = may_in m t (bytes_now s.fls.flash)

    may_is : (old : List ℕ) → bytes_now s.fls.flash ≡ Some old → may ≡ copied_of (flags_in m t old)
    may_is old at = ap (may_in m t) at

    behind_read : HoldsBehind e
    behind_read = held_behind m entry s listed kept count on t none may (λ old at told.
        subst (λ (x : May). IsHeld (banks_of m) m.numbers old (memory_of t) x) (sym (may_is old at)) (reading old at (shows_now old at told)).0.held)

    started' : AreStarted d e
    started' = record { same = record { reading = refl; numbers = refl; entry = refl; later = omega arith; old = on.sound.device.run.alike; new = run_read.alike }; making = refl; old = on.started; new = on.started }

    same_bytes : (old new : List ℕ) → bytes_now s.fls.flash ≡ Some old → bytes_now s.fls.flash ≡ Some new → old ≡ new
    same_bytes old new a b' = cc (a, b')

    pub keeping : KeepsAll (told_of d) (told_of e)
    keeping = kept_is_told d e may started' (λ old new told.
        subst (λ (x : List ℕ). IsKept (banks_of m) m.numbers old x (memory_of s) (memory_of t) may) (same_bytes old new told.1 told.2)
        (subst (λ (x : May). IsKept (banks_of m) m.numbers old old (memory_of s) (memory_of t) x) (sym (may_is old told.1)) (reading old told.1 (shows_now old told.1 told.0)).0))

    copies_then : TellsCopies m entry t
    copies_then on' told = each_now s.fls.flash.bytes (λ (x : List ℕ). IfSome b.course (λ y. ShowsCopies m t y x)) (λ old at.
        (let is' = reading old at (shows_now old at told) in
        let shown : ShowsCopies m t c' old = record { held = is'.0.held; copy = is'.1 } in
        subst (λ (o : Option Course). IfSome o (λ y. ShowsCopies m t y old)) (sym at') shown))

    -- THE PARTS
    pub facts_then : is_copying (Some c) ≡ true → IsSameFlash s.banks b → given ≤ 4096 → last ≢ JobPending → IsWork m.geometry.page (sectors_of_bank m.geometry m.banks) m.numbers m.reserve (stand_of s.content job last given) (work_of m.reserve b job) → IsAtWork m t → KeepsRoom m.reserve b
        → Facts m entry s listed kept count on t none
    facts_then copies same few ended work at_work room = record {
      ends = record { same = same; room = on.sound.made_for.room; given_few = few; ended = ended };
      behind = behind_read;
      work = work;
      at_work = at_work;
      room = room;
      copies = copies_then;
      worn = λ since worn. absurd (not_worn' since worn);
      still = λ none. (let is : true ≡ false = sym copies ∙ sym (ap is_copying course_is) ∙ none in cc is);
    }
