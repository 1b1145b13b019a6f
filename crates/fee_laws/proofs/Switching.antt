-- A step of an open switch, and what it leaves.
use Rattle.std.specs.Prelude.{IfSome, IsTrue}
use Rattle.std.proofs.Common.{◌≡◌, ◌++◌, ◌∷◌, ℕ, Bool, List, [], Option, Some, None, sym, ap, subst, refl}
use Rattle.nv_base.specs.declared.instance.DeviceNumber.{DeviceNumber}
use Rattle.memif.specs.declared.answer.JobResult.{JobResult}
use Rattle.memif.specs.Marks.{KeepsAll}
use Rattle.fls_model.specs.declared.flash.FlashAnswer.{FlashAnswer}
use Rattle.fls_model.specs.Op.{Op, MayLeave}
use Rattle.fls_model.specs.Step.{IsAsked, IsStep, OffOrAsked, Leaves}
use Rattle.fls_model.specs.Told.{Told, bytes_now}
use Rattle.fls_jobs.specs.State.{FlsState}
use Rattle.fee_image.specs.Image.{Layout}
use Rattle.fee_image.specs.May.{May}
use Rattle.fee_image.specs.Copies.{copied_of}
use Rattle.fee_switch_laws.specs.fee_log.Log.{work_in}
use Rattle.fee_course.specs.declared.course.Course.{Course}
use Rattle.fee_switch_laws.specs.fee_switch.Banks.{BanksState}
use Rattle.promise_device.specs.Making.{Making, banks_of}
use Rattle.fee_told.specs.Slots.{Memory}
use Rattle.fee_told.specs.SlotLaws.{IsHeld}
use Rattle.fee_told.specs.fls_told.Clock.{change_of}
use Rattle.fee_told.specs.fls_told.Runs.{HasRun, KeepsWorn, counts_fault}
use Rattle.fee_told.specs.Device.{Device, tells, told_of, flash_device}
use Rattle.fee_told.specs.Kept.{IsKept}
use Rattle.fee_told.specs.Whole.{CutsKeep, IsKeptSo}
use Rattle.fee_told.proofs.Whole.{kept_is_told, told_behind}
use Rattle.fee_told.proofs.ToldBytes.{before_told, each_told, now_at}
use Rattle.fee_laws.specs.declared.job.FeeJob.{FeeJob}
use Rattle.fee_laws.specs.Copied.{IsCopying}
use Rattle.fee_laws.specs.Inside.{Parts, device_of, memory_of, flags_in, ShowsCopies, HoldsBehind, TellsCopies}
use Rattle.fee_laws.specs.Switches.{IsStepping}
use Rattle.fee_laws.proofs.Before.{power, copies_before, sound_before, each_now}
use Rattle.fee_laws.proofs.Operation.{left, run, started, are_told}
use Rattle.fee_laws.proofs.Behind.{held_behind}
use Rattle.fee_image.specs.Sound.{IsSoundImage}

-- what the target may show where these bytes are told
abbrev pub may_in : Making → Parts → Option (List ℕ) → May
may_in m t None = λ number length. None
may_in m t (Some bytes) = copied_of (flags_in m t bytes)

module _ (m : Making) (entry : Told) (s : Parts) (listed : List (DeviceNumber × ℕ)) (kept count : ℕ) (c : Course) (made : BanksState) (answer : FlashAnswer) (f : FlsState) (is : IsStepping m entry s listed kept count c made answer f) (op : Op) (step : IsStep op s.fls.flash answer f.flash) where
  abbrev pub l : Layout
  l = banks_of m

  abbrev pub d : Device
  d = device_of m entry s

  pub asked : IsAsked op s.fls.flash answer f.flash
  asked = subst (λ (b : Bool). OffOrAsked b op s.fls.flash answer f.flash) (power m entry s listed kept count is.on) step

  pub not_worn : (since : ℕ) → s.worn ≡ Some since → ⊥
  not_worn since worn = let shut = (is.on.sound.worn since worn).shut in let open' = is.course in cc (shut, open')

  pub shows : (old : List ℕ) → bytes_now s.fls.flash ≡ Some old → IsTrue (tells d) → ShowsCopies m s c old
  shows old at told =
      subst (λ (o : Option Course). IfSome o (λ x. ShowsCopies m s x old)) is.course
      (now_at s.fls.flash.bytes (λ (x : List ℕ). IfSome s.banks.course (λ y. ShowsCopies m s y x)) old at (copies_before m entry s listed kept count is.on told))

  -- WHATEVER A CUT LEAVES
  abbrev pub Cutting : Memory → Type 0
  Cutting torn = (old image : List ℕ) → IsSoundImage l old → ShowsCopies m s c old → MayLeave op old image → IsKept l m.numbers old image (memory_of s) torn (copied_of (flags_in m s old))

  module _ (torn : Memory) (cutting : Cutting torn) where
    pub keeps : CutsKeep op d
    keeps told = each_told s.fls.flash.bytes (λ (old : List ℕ). (image : List ℕ) → MayLeave op old image → IsKeptSo l m.numbers old image (memory_of s)) (λ old at image leaves. record {
      behind = torn;
      copied = copied_of (flags_in m s old);
      kept = cutting old image (sound_before m entry s listed kept count is.on old at told) (shows old at told) leaves;
    })

    -- BEHIND IT
    module _ (b : BanksState) (c' : Course) (at' : b.course ≡ Some c') (job : Option FeeJob) (last : JobResult) (given : ℕ) where
      abbrev pub t : Parts
      t = record s { fls = f; banks = b; job = job; last = last; given = given; faults = counts_fault answer s.faults; operations = s.operations ++ change_of op s.fls.flash answer ∷ [] }

      abbrev pub e : Device
      e = device_of m entry t

      stays_worn : KeepsWorn op (flash_device d) (flash_device e)
      stays_worn n since worn = absurd (not_worn since worn)

      pub run_on : HasRun (flash_device e)
      run_on = run m entry s listed kept count is.on op answer f is.drives asked keeps b job last given stays_worn

      -- what the bytes hold then
      pub record Showed (old new : List ℕ) : Type 0 where
        pub kept_all : IsKept l m.numbers old new (memory_of s) (memory_of t) (copied_of (flags_in m t new))
        pub copying : IsCopying c' (work_in b.copies.tail) b.buffer (flags_in m t new)

      abbrev pub Showing : Type 0
      Showing = (old new : List ℕ) → IsSoundImage l old → ShowsCopies m s c old → MayLeave op old new → Leaves op answer old new → Showed old new

      module _ (showing : Showing) where
        showed : (old new : List ℕ) → bytes_now s.fls.flash ≡ Some old → bytes_now f.flash ≡ Some new → IsTrue (tells d) → Showed old new
        showed old new at_old at_new told =
            let both = left m entry s listed kept count is.on op answer f is.drives asked old new at_old at_new in
            showing old new (sound_before m entry s listed kept count is.on old at_old told) (shows old at_old told) both.0 both.1

        abbrev more : May
        more = may_in m t (bytes_now f.flash)

        more_is : (new : List ℕ) → bytes_now f.flash ≡ Some new → more ≡ copied_of (flags_in m t new)
        more_is new at = ap (may_in m t) at

        pub behind : HoldsBehind e
        behind = held_behind m entry s listed kept count is.on op answer f is.drives asked b job last given run_on more
            (λ new at told.
            (let before = before_told s.fls.flash.bytes f.flash.bytes op answer new asked.bytes at in
            subst (λ (x : May). IsHeld l m.numbers new (memory_of t) x) (sym (more_is new at)) (showed before.0 new before.1 at told).kept_all.held))

        pub keeps_all : KeepsAll (told_of d) (told_of e)
        keeps_all = kept_is_told d e more (started m entry s listed kept count is.on op answer f is.drives asked keeps b job last given run_on)
            (λ old new now. (let told = are_told d e s.operations (change_of op s.fls.flash answer) old new refl now in subst (λ (x : May). IsKept l m.numbers old new (memory_of s) (memory_of t) x) (sym (more_is new told.2)) (showed old new told.1 told.2 told.0).kept_all))

        pub copies : TellsCopies m entry t
        copies on now = each_now f.flash.bytes (λ (x : List ℕ). IfSome b.course (λ y. ShowsCopies m t y x)) (λ new at.
            (let before = before_told s.fls.flash.bytes f.flash.bytes op answer new asked.bytes at in
            let is' = showed before.0 new before.1 at (told_behind e s.operations (change_of op s.fls.flash answer) refl now) in
            let shown : ShowsCopies m t c' new = record { held = is'.kept_all.held; copy = is'.copying } in
            subst (λ (o : Option Course). IfSome o (λ y. ShowsCopies m t y new)) (sym at') shown))
