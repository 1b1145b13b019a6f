-- A device behind a changing operation.
use Rattle.std.specs.Prelude.{IfSome, IsTrue, min, length, slice_get, if◌then◌else◌}
use Rattle.std.proofs.Common.{◌≡◌, ◌≢◌, inl, inr, ◌≤◌, ◌+◌, ◌++◌, ◌∷◌, ℕ, Bool, true, false, List, [], Option, Some, None, refl, sym, ap, ◌∙◌, subst, arith}
use Rattle.std.proofs.Math.ListN.{length-append}
use Rattle.nv_base.specs.Count.{next_count, last_count}
use Rattle.nv_base.specs.Geometry.{sectors_of_bank}
use Rattle.nv_base.specs.declared.geometry.Geometry.{Geometry}
use Rattle.nv_base.specs.declared.instance.DeviceNumber.{DeviceNumber}
use Rattle.memif.specs.declared.answer.JobResult.{JobResult}
use Rattle.memif.specs.declared.answer.JobResult.TheVariants.{JobPending}
use Rattle.memif.specs.Told.{Slot, Stand, slot_at}
use Rattle.memif.specs.Marks.{Keeps, KeepsAll}
use Rattle.memif.specs.Clock.{Seals}
use Rattle.memif.specs.Calls.{InOrder}
use Rattle.fls_model.specs.declared.flash.FlashAnswer.{FlashAnswer}
use Rattle.fls_model.specs.Attach.{AreBytesOf}
use Rattle.fls_model.specs.Op.{Op}
use Rattle.fls_model.specs.Step.{IsAsked}
use Rattle.fls_model.specs.Told.{Told, Change, bytes_now}
use Rattle.fee_image.specs.May.{May}
use Rattle.promise_device.specs.Making.{Making, banks_of}
use Rattle.promise_device.specs.Traits.{is_such}
use Rattle.fee_told.specs.Slots.{Memory, HasJob, slots_held, slots_found}
use Rattle.fee_told.specs.SlotLaws.{IsHeld, SamePlaces}
use Rattle.fee_told.specs.fls_told.Device.{slot_with}
use Rattle.fee_told.specs.fls_told.Clock.{change_of}
use Rattle.fee_told.specs.fls_told.Runs.{HasRun, counts_fault}
use Rattle.fee_told.proofs.Tells.{tells_keep}
use Rattle.fee_told.specs.Device.{tells, Device, told_of, clock_of, flash_device}
use Rattle.fee_told.specs.Whole.{HoldsBanks}
use Rattle.fee_told.proofs.Steps.{places_tell}
use Rattle.fee_told.proofs.Whole.{told_behind}
use Rattle.fls_jobs.specs.Start.{IsIdle}
use Rattle.fls_jobs.specs.State.{FlsState}
use Rattle.fee_course.specs.declared.course.Course.{Course}
use Rattle.fee_course.specs.declared.course.Course.TheVariants as course
use Rattle.fee_switch_laws.specs.fee_switch.Banks.{BanksState, IsSameFlash}
use Rattle.fee_switch_laws.specs.KeepsRoom.{KeepsRoom}
use Rattle.fee_told.specs.FigureLaws.{IsWork}
use Rattle.fee_told.proofs.Kept.{same_places}
use Rattle.fee_told.proofs.Counted.{few_faults, next_length, one_later}
use Rattle.fee_told.proofs.ToldBytes.{each_told}
use Rattle.fee_laws.specs.declared.job.FeeJob.{FeeJob}
use Rattle.fee_laws.specs.Inside.{Parts, stand_of, memory_of, device_of, IsMadeFor, IsAtWork, HoldsBehind, TellsCopies, SealsEarlier, is_copying, IsSound}
use Rattle.fee_laws.specs.Work.{work_of, seal_turns}
use Rattle.fee_laws.specs.Turn.{IsOn, Drives}
use Rattle.fee_laws.proofs.Before.{shape, lengths, legal, some_told}
use Rattle.fee_laws.proofs.Order.{behind_finds, in_order}
use Rattle.fee_laws.proofs.Operation.{cuts, are_told}
use Rattle.fee_laws.proofs.MadeFor.{still_made}

later : (n : ℕ) (xs : List Change) (x : Change) → n ≤ min (length xs) last_count → n ≤ min (length (xs ++ x ∷ [])) last_count
later n xs x few = let h = length-append xs (x ∷ []) in omega (arith, h)

-- the last of a list is what was added
get_last : (xs : List Change) (x : Change) → slice_get (xs ++ x ∷ []) (length xs) ≡ Some x
get_last [] x = refl
get_last (y ∷ xs) x = get_last xs x

pub last_is : (xs : List Change) (x y : Change) (k : ℕ) → length (xs ++ x ∷ []) ≡ k + 1 → slice_get (xs ++ x ∷ []) k ≡ Some y → y ≡ x
last_is xs x y k many at =
    let more = length-append xs (x ∷ []) in
    let here : k ≡ length xs = omega (arith, many, more) in
    let same : Some y ≡ Some x = sym at ∙ ap (slice_get (xs ++ x ∷ [])) here ∙ get_last xs x in
    cc same

-- while the target is sealed it isn't copied
not_copying : (c : Option Course) → 1 ≤ seal_turns c → is_copying c ≡ false
not_copying None sealed = refl
not_copying (Some (course.Erase n)) sealed = refl
not_copying (Some (course.Copy w)) sealed = absurd (omega (arith, sealed))
not_copying (Some course.Head) sealed = refl
not_copying (Some (course.Gate failed)) sealed = refl

module _ (m : Making) (entry : Told) (s : Parts) (listed : List (DeviceNumber × ℕ)) (kept count : ℕ) (on : IsOn m entry s listed kept count) (op : Op) (answer : FlashAnswer) (f : FlsState) (drives : Drives s.fls f) (asked : IsAsked op s.fls.flash answer f.flash) (b : BanksState) (job : Option FeeJob) (last : JobResult) (given : ℕ) where
  abbrev d : Device
  d = device_of m entry s

  abbrev pub t : Parts
  t = record s { fls = f; banks = b; job = job; last = last; given = given; faults = counts_fault answer s.faults; operations = s.operations ++ change_of op s.fls.flash answer ∷ [] }

  abbrev pub e : Device
  e = device_of m entry t

  geometry : f.geometry ≡ m.geometry
  geometry = ap (λ (x : FlsState). x.geometry) drives.only ∙ on.sound.made_for.geometry

  idle : IsIdle f
  idle = record { job = ap (λ (x : FlsState). x.job) drives.only ∙ on.sound.made_for.idle.job; attached = ap (λ (x : FlsState). x.attached) drives.only ∙ on.sound.made_for.idle.attached }

  pub bytes : IfSome f.flash.bytes (λ x. AreBytesOf m.geometry x.now)
  bytes = subst (λ (g : Geometry). IfSome f.flash.bytes (λ x. AreBytesOf g x.now)) geometry (drives.state.attached idle.attached).bytes

  -- the banks are those of the same flash and numbers, and the job came to an end
  pub record Ends : Type 0 where
    pub same : IsSameFlash s.banks b
    pub ended : last ≢ JobPending
    pub given_few : given ≤ 4096

  made_for : Ends → IsMadeFor m t
  made_for is = still_made m s t on.sound.made_for drives.only bytes is.same on.sound.made_for.room is.given_few is.ended

  -- the bytes hold its banks
  holds : HasRun (flash_device e) → (x : Memory) (more : May) → ((new : List ℕ) → bytes_now f.flash ≡ Some new → IsTrue (tells e) → IsHeld (banks_of m) m.numbers new x more) → HoldsBanks (record e { memory = x }) more
  holds run x more held = record {
    started = on.started;
    alike = run.alike;
    legal = legal m entry s listed kept count on;
    some = some_told m.geometry f.flash.bytes (shape m entry s listed kept count on) bytes;
    held = λ told. each_told f.flash.bytes (λ (y : List ℕ). IsHeld (banks_of m) m.numbers y x more) (λ new at. held new at (told_behind e s.operations (change_of op s.fls.flash answer) refl told));
  }

  pub held_behind : HasRun (flash_device e) → (more : May) → ((new : List ℕ) → bytes_now f.flash ≡ Some new → IsTrue (tells e) → IsHeld (banks_of m) m.numbers new (memory_of t) more) → HoldsBehind e
  held_behind run more held = record { behind = memory_of t; copied = more; banks = holds run (memory_of t) more held; places = same_places (memory_of t).old; stand = refl; on = λ power. refl; idle = inl refl }

  -- or what a cut left, with the same places and the same job, which any job fits
  pub held_torn : HasRun (flash_device e) → f.flash.off ≡ true → (torn : Memory) → SamePlaces torn.old (memory_of t).old → torn.stand ≡ (memory_of t).stand → ((stand : Stand) → HasJob m.numbers stand torn.old)
      → (more : May) → ((new : List ℕ) → bytes_now f.flash ≡ Some new → IsTrue (tells e) → IsHeld (banks_of m) m.numbers new torn more) → HoldsBehind e
  held_torn run off torn places stands fits more held = record { behind = torn; copied = more; banks = holds run torn more held; places = places; stand = stands; on = λ power. cc (off, power); idle = inr fits }

  pub torn_keeps : HasRun (flash_device e) → (torn : Memory) → SamePlaces torn.old (memory_of t).old → torn.stand ≡ (memory_of t).stand
      → ((old new : List ℕ) → IsTrue (tells d) × (bytes_now s.fls.flash ≡ Some old) × (bytes_now f.flash ≡ Some new) → (n : ℕ) → Keeps (slot_at m.numbers (slots_held (banks_of m) m.numbers old (memory_of s)) n) (slot_at m.numbers (slots_held (banks_of m) m.numbers new torn) n)) → KeepsAll (told_of d) (told_of e)
  torn_keeps run torn places stands keeps = tells_keep (flash_device d) (flash_device e) (record { reading = refl; numbers = refl; entry = refl; later = one_later s.operations (change_of op s.fls.flash answer); old = on.sound.device.run.alike; new = run.alike }) (λ old new told n.
      (let path = slots_at new (memory_of t) ∙ places_tell (banks_of m) m.numbers new torn (memory_of t) places (sym stands) in
      subst (λ (x : List Slot). Keeps (slot_at m.numbers x n) (slot_with (flash_device e) new n)) (sym (slots_at old (memory_of s)))
      (subst (λ (x : List Slot). Keeps (slot_at m.numbers (slots_held (banks_of m) m.numbers old (memory_of s)) n) (slot_at m.numbers x n)) (sym path) (keeps old new (are_told d e s.operations (change_of op s.fls.flash answer) old new refl told) n))))
    where
      slots_at : (x : List ℕ) (o : Memory) → (if s.started then slots_held (banks_of m) m.numbers x o else slots_found (banks_of m) m.numbers x) ≡ slots_held (banks_of m) m.numbers x o
      slots_at x o = ap (λ (y : Bool). if y then slots_held (banks_of m) m.numbers x o else slots_found (banks_of m) m.numbers x) on.started

  -- what is known of it
  pub record Facts : Type 0 where
    pub ends : Ends
    pub run : HasRun (flash_device e)
    pub behind : HoldsBehind e
    pub work : IsWork m.geometry.page (sectors_of_bank m.geometry m.banks) m.numbers m.reserve (stand_of s.content job last given) (work_of m.reserve b job)
    pub at_work : IsAtWork m t
    pub shut : (since : ℕ) → s.worn ≡ Some since → b.course ≡ None
    pub seals : IsTrue (is_such m Seals (change_of op s.fls.flash answer)) → 1 ≤ seal_turns b.course
    pub room : f.flash.off ≡ false → KeepsRoom m.reserve b
    pub copies : TellsCopies m entry t

  seals_earlier : Facts → SealsEarlier m t
  seals_earlier is k x many at such =
      not_copying b.course (is.seals (subst (λ (y : Change). IsTrue (is_such m Seals y)) (last_is s.operations (change_of op s.fls.flash answer) x k many at) such))

  pub order : Facts → InOrder (told_of e) (clock_of e)
  order is = in_order m entry t (shape m entry s listed kept count on) (lengths m entry s listed kept count on) is.work is.run.alike (behind_finds e on.started is.behind)

  pub sound : Facts → (is_off : Bool) → is_off ≡ f.flash.off → IsSound m entry t listed kept (next_count count) is_off
  sound is is_off off = record {
    made_for = made_for is.ends;
    device = record { run = is.run; held = λ started. is.behind; order = order is; faults = few_faults answer s.faults on.sound.device.faults };
    rests = λ stopped. (let h = on.started in absurd (cc (h, stopped)));
    works = λ started. is.at_work;
    room = λ started power. is.room power;
    copies = is.copies;
    cuts = cuts m entry s listed kept count on op answer f drives asked;
    worn = λ since is'. record { passed = later since s.operations (change_of op s.fls.flash answer) (on.sound.worn since is').passed; shut = is.shut since is' };
    seals = seals_earlier is;
    numbers = on.sound.numbers;
    reserve = on.sound.reserve;
    ops = next_length s.operations (change_of op s.fls.flash answer) count on.sound.ops;
    off = λ started. off;
  }
