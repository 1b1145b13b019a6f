-- The turn of a device that is worn out.
use Rattle.std.specs.Prelude.{IfSome, IsSome, IsTrue, ◌&&◌, not, is_none, nat_le, min, length, take, drop, unwrap_or, option_map, if◌then◌else◌}
use Rattle.std.proofs.Common.{◌≡◌, ◌⊎◌, inl, inr, ◌≤◌, ◌<◌, ◌+◌, ℕ, Bool, true, false, List, [], Option, Some, None, refl, sym, ap, ◌∙◌, subst, arith}
use Rattle.std.specs.List.{list_all}
use Rattle.std.proofs.lemmas.Bool.{eqb-true}
use Rattle.std.proofs.Math.Seq.{drop-length}
use Rattle.nv_base.specs.Count.{last_count}
use Rattle.nv_base.specs.Pages.{record_pages_of}
use Rattle.nv_base.specs.declared.geometry.Geometry.{Geometry}
use Rattle.nv_base.specs.declared.instance.DeviceNumber.{DeviceNumber}
use Rattle.nv_base.specs.declared.mark.Mark.{Mark}
use Rattle.memif.specs.declared.answer.DeviceTurn.TheVariants as turn
use Rattle.memif.specs.declared.answer.JobResult.TheVariants.{JobFailed}
use Rattle.memif.specs.Told.{First, Job, Stand, Ended, is_open}
use Rattle.memif.specs.Marks.{KeepsAll}
use Rattle.memif.specs.Calls.{JobTurns, EndsAs, MayFail, Nearer, is_read, urgent_first}
use Rattle.fls_model.specs.Told.{Told, ToldBytes, Change, bytes_now}
use Rattle.fee_format.specs.declared.bank_head.BankHead.{BankHead}
use Rattle.fee_format.specs.BankHead.{last_generation}
use Rattle.fee_image.specs.Image.{active_of}
use Rattle.fee_image.specs.May.{May}
use Rattle.fee_switch_laws.specs.fee_log.Log.{work_in}
use Rattle.fee_switch_laws.specs.fee_switch.declared.active.ActiveBank.{ActiveBank}
use Rattle.fee_switch_laws.specs.fee_switch.Active.{active_shown}
use Rattle.fee_course.specs.declared.course.Course.{Course}
use Rattle.fee_switch_laws.specs.fee_switch.Banks.{is_worn_out}
use Rattle.fee_switch_laws.specs.Space.{free_pages}
use Rattle.promise_device.specs.Making.{Making, banks_of}
use Rattle.promise_device.specs.Bridge.{may_be_closed, is_program, wanted_pages}
use Rattle.promise_device.specs.Image.{HasNoRoomFor, has_no_room_for, IsOfLastGeneration, is_of_last_generation}
use Rattle.promise_device.proofs.Readings.{last_generations_compute, full_banks_compute}
use Rattle.fee_told.specs.Slots.{HasJob}
use Rattle.fee_told.specs.SlotLaws.{IsHeld}
use Rattle.fee_told.specs.fls_told.Device.{asked_ops}
use Rattle.fee_told.specs.fls_told.Runs.{HasRun, IsWornSince}
use Rattle.fee_told.proofs.Clocks.{worn_now}
use Rattle.fee_told.specs.Device.{Device, tells_now, told_of, clock_of, flash_device, is_switching}
use Rattle.fee_told.specs.Kept.{IsKept}
use Rattle.fee_told.specs.Figures.{left_of as turns_left, ready_of, turns_of, wait_of}
use Rattle.fee_told.specs.Turns.{has_failed}
use Rattle.fee_told.proofs.Kept.{same_places}
use Rattle.fee_told.proofs.Jobs.{jobs_change}
use Rattle.fee_told.proofs.Steps.{jobs_keep}
use Rattle.fee_told.proofs.Whole.{kept_is_told}
use Rattle.fee_told.proofs.ToldBytes.{each_told, now_at, told_at}
use Rattle.fee_laws.specs.declared.job.FeeJob.{FeeJob}
use Rattle.fee_laws.specs.Inside.{Parts, body_of, device_of, memory_of, mark_of, stand_of, fixed_in, HoldsBehind, IsAtWork, IsWorn, ShowsCopies}
use Rattle.fee_laws.specs.Record.{IsJobOf, IsReady}
use Rattle.fee_laws.specs.Work.{work_of, waits_of, switch_turns, begins_next, claimed, pages_free, pages_left, pages_of_job, pages_of_op, seal_turns}
use Rattle.fee_laws.specs.Turn.{IsOn, Turned}
use Rattle.fee_laws.specs.Worn.{IsWornNow, KnowsRoom, ShowsRoom, WearsOut, worn_with}
use Rattle.fee_laws.proofs.Before.{power, shape, lengths, legal, copied, held_at, each_now}
use Rattle.fee_laws.proofs.Order.{urgent_is}
use Rattle.fee_laws.proofs.Reading.{has_none}
use Rattle.fee_laws.proofs.GoneOn.{if_else}
use Rattle.fee_laws.proofs.SwitchFigures.{has_mark}
use Rattle.fee_laws.proofs.WornKnown.{shows_room}
use Rattle.fee_laws.proofs.WornFull.{op_few, op_some, lacks, never_begins}
use Rattle.fee_laws.proofs.SwitchBegun.{seal_is}
use Rattle.fee_laws.proofs.CallOrder.{nothing_left as rests_none}
use Rattle.fee_laws.proofs.Raising.{left_wanted}
use Rattle.fee_laws.proofs.FollowLifts.{some_of}
use Rattle.fee_laws.proofs.Appended.{IsShaped, resting_work, idle_at_work}
use Rattle.fee_laws.proofs.BehindNone.{AsksNone, Facts, run, held_behind, worked}
use Rattle.fee_switch_laws.specs.Shown.{phase_shown}

no_copies : (m : Making) (t : Parts) (x : List ℕ) (c : Option Course) → c ≡ None → IfSome c (λ y. ShowsCopies m t y x)
no_copies m t x None e = tt
no_copies m t x (Some c) e = cc e

-- a job that isn't a read has a mark
marked : (op : _) (content : List ℕ) (o : Option Mark) → mark_of op content ≡ o → is_none (mark_of op content) ≡ false → (x : Mark) × (mark_of op content ≡ Some x)
marked op content None at some' = let z : true ≡ false = sym (ap (λ (o : Option Mark). is_none o) at) ∙ some' in cc z
marked op content (Some x) at some' = (x, at)

-- more pages have no room either
more_pages : (m : Making) (n wanted : ℕ) (bytes : List ℕ) → n ≤ wanted → HasNoRoomFor n m bytes → HasNoRoomFor wanted m bytes
more_pages m n wanted bytes less (k, h, at, inl closed) = (k, h, at, inl closed)
more_pages m n wanted bytes less (k, h, at, inr few) = (k, h, at, inr (omega (arith, less, few)))

-- no operation came since now
none_since : (n : ℕ) (xs : List Change) → n ≡ min (length xs) last_count → n < last_count → IsTrue (list_all (λ x. is_program x.op) (drop n xs))
none_since n xs is less = let at : n ≡ length xs = omega (arith, is, less) in subst (λ (ys : List Change). IsTrue (list_all (λ x. is_program x.op) ys)) (sym (nothing_left n xs at)) refl
  where
    nothing_left : (k : ℕ) (ys : List Change) → k ≡ length ys → drop k ys ≡ []
    nothing_left k ys at = ap (λ (z : ℕ). drop z ys) at ∙ drop-length ys

-- for the bytes, or of none
told_or : (o : Option ToldBytes) (P : List ℕ → Type 0) (Q : Type 0) → IfSome o (λ b. P b.now ⊎ Q) → IfSome (option_map (λ (b : ToldBytes). b.now) o) P ⊎ Q
told_or None P Q either = inl tt
told_or (Some b) P Q (inl holds) = inl holds
told_or (Some b) P Q (inr other) = inr other

active_some : (o : Option ActiveBank) (x : ℕ × BankHead) → active_shown o ≡ Some x → IsSome o
active_some None x shown = cc shown
active_some (Some a) x shown = refl

last_shown : (o : Option ActiveBank) (m : Making) (bytes : List ℕ) → is_worn_out o ≡ true → active_shown o ≡ active_of (banks_of m) bytes → IsOfLastGeneration m bytes
last_shown None m bytes worn shown = cc worn
last_shown (Some a) m bytes worn shown = (a.bank, a.head, sym shown, eqb-true a.head.generation last_generation worn)

module _ (m : Making) (entry : Told) (s : Parts) (listed : List (DeviceNumber × ℕ)) (kept count : ℕ) (j : FeeJob) (on : IsOn m entry s listed kept count) (is : IsWornNow m entry s j) where
  abbrev since : ℕ
  since = unwrap_or s.worn count

  abbrev t : Parts
  t = worn_with count s

  abbrev d : Device
  d = device_of m entry s

  abbrev e : Device
  e = device_of m entry t

  at_work : IsAtWork m s
  at_work = on.sound.works on.started

  job_of : IsJobOf m.numbers j
  job_of = subst (λ (o : Option FeeJob). IfSome o (IsJobOf m.numbers)) is.job at_work.job

  -- WORN OUT
  shows_by : (bytes : List ℕ) → bytes_now s.fls.flash ≡ Some bytes → (b : Bool) → tells_now d ≡ b → KnowsRoom m entry s bytes → ShowsRoom m s bytes
  shows_by bytes at true told knows = shows_room m entry s listed kept count on is.idle is.shut bytes at told knows.closed
  shows_by bytes at false told knows = knows.unsound told

  shows_at : (bytes : List ℕ) → bytes_now s.fls.flash ≡ Some bytes → ShowsRoom m s bytes
  shows_at bytes at = shows_by bytes at (tells_now d) refl (now_at s.fls.flash.bytes (KnowsRoom m entry s) bytes at is.bytes)

  last_at : (bytes : List ℕ) → bytes_now s.fls.flash ≡ Some bytes → IsOfLastGeneration m bytes
  last_at bytes at = elim is.worn [
    | inl before ↦ (let x = some_of s.worn before in (last_generations_compute m bytes).0 (told_at s.fls.flash.bytes (λ (y : List ℕ). IsTrue (is_of_last_generation m y)) bytes at (on.sound.device.run.worn 0 x.0 x.1).last))
    | inr worn ↦ last_shown s.banks.active m bytes worn (shows_at bytes at).active
  ]

  last_now : IfSome (bytes_now s.fls.flash) (λ (x : List ℕ). IsTrue (is_of_last_generation m x))
  last_now = each_told s.fls.flash.bytes (λ (x : List ℕ). IsTrue (is_of_last_generation m x)) (λ bytes at. (last_generations_compute m bytes).1 (last_at bytes at))

  since_few : (o : Option ℕ) → s.worn ≡ o → unwrap_or o count ≤ min (length s.operations) last_count
  since_few None at = let h = on.sound.ops in omega (arith, h)
  since_few (Some x) at = (on.sound.worn x at).passed

  few_now : since ≤ min (length s.operations) last_count
  few_now = since_few s.worn refl

  worn_since : (o : Option ℕ) → s.worn ≡ o → (n : ℕ) → IsWornSince (flash_device e) n (unwrap_or o count)
  worn_since None at n = record { last = last_now; follow = none_since count s.operations on.sound.ops }
  worn_since (Some x) at n = let w = on.sound.device.run.worn n x at in record { last = w.last; follow = w.follow }

  worn_either : (o : Option ℕ) → s.worn ≡ o → (Some (unwrap_or o count) ≡ s.worn) ⊎ (s.worn ≡ None)
  worn_either None at = inr at
  worn_either (Some x) at = inl (sym at)

  some_is : (x : ℕ) → t.worn ≡ Some x → since ≡ x
  some_is x at = cc at

  -- ROOM
  page_is : s.banks.geometry.page ≡ m.geometry.page
  page_is = ap (λ (g : Geometry). g.page) on.sound.made_for.banks_geometry

  some_page : 0 < s.banks.geometry.page
  some_page = let low = (shape m entry s listed kept count on).page_low in let same = page_is in omega (arith, low, same)

  wanted_is : wanted_pages m j.number.0 j.urgent ≡ record_pages_of job_of.length m.geometry.page + (if j.urgent then 0 else m.reserve)
  wanted_is = ap (λ (o : Option ℕ). record_pages_of (unwrap_or o 0) m.geometry.page + (if j.urgent then 0 else m.reserve)) job_of.configured

  few_free : free_pages s.banks + 1 ≤ wanted_pages m j.number.0 j.urgent
  few_free =
      let less = lacks j.urgent (pages_of_op s.banks.geometry.page j.op j.length) m.reserve (free_pages s.banks) is.full in
      let fits = subst (λ (n : ℕ). pages_of_op s.banks.geometry.page j.op j.length ≤ record_pages_of job_of.length n) page_is (op_few s.banks.geometry.page j.op j.length job_of.length some_page job_of.fits) in
      let same = wanted_is in
      omega (arith, less, fits, same)

  room_at : (bytes : List ℕ) → bytes_now s.fls.flash ≡ Some bytes → IsTrue (has_no_room_for (wanted_pages m j.number.0 j.urgent) m bytes) ⊎ IsTrue (may_be_closed s.operations)
  room_at bytes at =
      let shows = shows_at bytes at in
      let last = last_at bytes at in
      elim (shows.room (active_some s.banks.active (last.0, last.1) (shows.active ∙ last.2))) [
        | inl none ↦ inl ((full_banks_compute (wanted_pages m j.number.0 j.urgent) m bytes).1 (more_pages m (free_pages s.banks + 1) (wanted_pages m j.number.0 j.urgent) bytes few_free none))
        | inr failed ↦ inr failed
      ]

  room_now : IfSome (bytes_now s.fls.flash) (λ (x : List ℕ). IsTrue (has_no_room_for (wanted_pages m j.number.0 j.urgent) m x)) ⊎ IsTrue (may_be_closed s.operations)
  room_now = told_or s.fls.flash.bytes (λ (x : List ℕ). IsTrue (has_no_room_for (wanted_pages m j.number.0 j.urgent) m x)) (IsTrue (may_be_closed s.operations))
      (each_now s.fls.flash.bytes (λ (x : List ℕ). IsTrue (has_no_room_for (wanted_pages m j.number.0 j.urgent) m x) ⊎ IsTrue (may_be_closed s.operations)) room_at)

  is_worn : (clock_of e).worn (asked_ops (flash_device e)) j.number.0 j.urgent
  is_worn = worn_now (flash_device e) since j.number.0 j.urgent refl few_now room_now

  -- BEHIND IT
  asks_none : AsksNone m entry s t
  asks_none = record { only = refl; more = omega arith; counted = inl refl; worn = λ x at. inr (subst (λ (k : ℕ). (n : ℕ) → IsWornSince (flash_device e) n k) (some_is x at) (worn_since s.worn refl)) }

  run_on : HasRun (flash_device e)
  run_on = run m entry s listed kept count on t asks_none

  has_job : HasJob m.numbers (Ended JobFailed []) (memory_of s).old
  has_job = has_none m.numbers s.banks.active s.banks.log s.banks.log.tail (body_of (work_in s.banks.log.tail) s.content) [] JobFailed is.idle

  held_then : (bytes : List ℕ) (wide : May) → IsHeld (banks_of m) m.numbers bytes (memory_of s) wide → IsHeld (banks_of m) m.numbers bytes (memory_of t) wide
  held_then bytes wide held = jobs_change (banks_of m) m.numbers bytes (memory_of s) wide (Ended JobFailed []) (record { lengths = lengths m entry s listed kept count on; legal = legal m entry s listed kept count on; held = held }) has_job

  abbrev more : May
  more = copied m entry s listed kept count on

  kept_at : (bytes : List ℕ) → bytes_now s.fls.flash ≡ Some bytes → IsTrue (tells_now d) → IsKept (banks_of m) m.numbers bytes bytes (memory_of s) (memory_of t) more
  kept_at bytes at told =
      let held = held_at m entry s listed kept count on bytes at told in
      record { held = held_then bytes more held; keeps = jobs_keep (banks_of m) m.numbers bytes (memory_of s) (memory_of t) more held (same_places (memory_of s).old) (inr refl); sound = λ sound. sound }

  same_bytes : (old new : List ℕ) → bytes_now s.fls.flash ≡ Some old → bytes_now s.fls.flash ≡ Some new → old ≡ new
  same_bytes old new a b = cc (a, b)

  keeps_all : KeepsAll (told_of d) (told_of e)
  keeps_all = kept_is_told d e more
      (record { same = record { reading = refl; numbers = refl; entry = refl; later = omega arith; old = on.sound.device.run.alike; new = run_on.alike }; making = refl; old = on.started; new = on.started })
      (λ old new told. subst (λ (x : List ℕ). IsKept (banks_of m) m.numbers old x (memory_of s) (memory_of t) more) (same_bytes old new told.1 told.2) (kept_at old told.1 told.0))

  behind : HoldsBehind e
  behind = held_behind m entry s listed kept count on t asks_none more (λ bytes at told. (kept_at bytes at told).held)

  -- THE PARTS
  no_switch : switch_turns m.reserve s.banks None s.banks.course ≡ 0
  no_switch = rests_none m.reserve s.banks s.banks.course is.shut

  shaped : IsShaped m s.banks
  shaped = record { geometry = on.sound.made_for.banks_geometry; shared = on.sound.made_for.shared; numbers = on.sound.made_for.numbers }

  facts : Facts m entry s listed kept count on t asks_none
  facts = record {
    ends = record { same = record { geometry = refl; banks = refl; numbers = refl }; room = on.sound.made_for.room; given_few = omega arith; ended = λ same. cc };
    behind = behind;
    work = resting_work m s.banks JobFailed [] shaped at_work.switch;
    at_work = idle_at_work m t is.idle at_work.active tt tt at_work.switch;
    room = on.sound.room on.started (power m entry s listed kept count on);
    copies = λ on' told. each_now s.fls.flash.bytes (λ (x : List ℕ). IfSome s.banks.course (λ y. ShowsCopies m t y x)) (λ bytes at. no_copies m t bytes s.banks.course is.shut);
    worn = λ x at. subst (IsWorn t) (some_is x at) (record { passed = few_now; shut = is.shut });
    still = λ none. none;
  }

  -- THE TURN
  abbrev at : Option FeeJob → Stand
  at o = stand_of s.content o s.last s.given

  abbrev asks : Job
  asks = record { number = j.number.0; mark = mark_of j.op (take j.length s.content); urgent = j.urgent }

  has_none' : is_none asks.mark ≡ false
  has_none' = has_mark j.op (take j.length s.content) is.writes

  mark : (x : Mark) × (asks.mark ≡ Some x)
  mark = marked j.op (take j.length s.content) asks.mark refl has_none'

  none_begins : begins_next s.banks j ≡ false
  none_begins = never_begins m.reserve s.banks j is.full

  none_claimed : claimed s.banks s.job ≡ 0
  none_claimed = ap (claimed s.banks) is.job ∙ ap (λ (b : Bool). if b then pages_of_op s.banks.geometry.page j.op j.length else 0) none_begins

  ready_same : (told_of d).ready ≤ (told_of e).ready
  ready_same =
      let none = none_claimed in
      let free : pages_free s.banks None ≡ pages_free s.banks s.job = omega (arith, none) in
      let same = ap (ready_of m.reserve (nat_le 1 (seal_turns s.banks.course))) free in
      omega (arith, same)

  -- nothing was promised
  not_promised : (b : Bool) → j.promised ≡ b → j.promised ≡ false
  not_promised true promised =
      let ready = subst (λ (o : Option FeeJob). IfSome o (IsReady s.banks)) is.job at_work.ready in
      elim (ready promised is.idle) [
        | inl begins ↦ absurd (let x : true ≡ false = sym begins ∙ none_begins in cc x)
        | inr seal ↦ (let shut = seal_is s.banks.course is.shut in absurd (omega (arith, seal, shut)))
      ]
  not_promised false promised = promised

  waits_none : urgent_first (fixed_in m) (at s.job) ≡ true → (told_of d).wait ≡ None
  waits_none urgent =
      let is_urgent : j.urgent ≡ true = sym (urgent_is m asks) ∙ subst (λ (o : Option FeeJob). urgent_first (fixed_in m) (at o) ≡ true) is.job urgent in
      let promised = not_promised j.promised refl in
      ap (λ (o : Option FeeJob). wait_of (waits_of s.banks o)) is.job ∙ (λ i. wait_of (record (waits_of s.banks (Some j)) { urgent = is_urgent i; promised = promised i }))

  pages_whole : pages_left s.banks.geometry.page (pages_of_job s.banks.geometry.page s.job) s.banks.log.tail ≡ pages_of_op s.banks.geometry.page j.op j.length
  pages_whole = left_wanted s.banks.geometry.page (pages_of_job s.banks.geometry.page s.job) s.banks.log.tail is.idle ∙ ap (pages_of_job s.banks.geometry.page) is.job

  falls : (told_of e).left < (told_of d).left
  falls =
      let zero = no_switch in
      let whole = pages_whole in
      let many = op_some s.banks.geometry.page j.op j.length is.writes in
      let w = work_of m.reserve s.banks s.job in
      subst (λ (o : Option FeeJob). switch_turns m.reserve s.banks None s.banks.course < turns_left (at o) (work_of m.reserve s.banks s.job)) (sym is.job)
      (subst (λ (o : Option Mark). switch_turns m.reserve s.banks None s.banks.course < turns_of o (work_of m.reserve s.banks s.job) + switch_turns m.reserve s.banks s.job s.banks.course) (sym mark.1) (omega (arith, zero, whole, many)))

  ends : EndsAs asks.mark asks.number JobFailed [] (told_of d) (told_of e)
  ends = subst (λ (o : Option Mark). EndsAs o asks.number JobFailed [] (told_of d) (told_of e)) (sym mark.1) (keeps_all, refl)

  may_fail : MayFail First asks (told_of d) (told_of e) (clock_of e)
  may_fail = inr (λ none. (let x = mark.1 in cc (x, none)), is_worn)

  -- no switch is open
  shut_switch : (told_of d).switching ≡ false
  shut_switch = λ i. on.started i && is_switching (phase_shown (is.shut i) s.banks (body_of (work_in s.banks.copies.tail) s.banks.buffer))

  pub worn_out : Turned m entry turn.Worked s t listed kept count false
  worn_out = worked m entry s listed kept count on t asks_none facts (record {
    something = subst (λ (o : Option FeeJob). not (is_open (at o)) && not (told_of d).switching ≡ false) (sym is.job) refl;
    job_turns = subst (λ (o : Option FeeJob). JobTurns First (at o) (Ended JobFailed []) (told_of d) (told_of e) (clock_of e)) (sym is.job) (ends, λ failed. may_fail);
    read = subst (λ (o : Option FeeJob). is_read (at o) ≡ true → ((told_of e).ops ≡ (told_of d).ops) × ((told_of e).slots ≡ (told_of d).slots)) (sym is.job) (λ read. (let none = has_none' in absurd (cc (read, none))));
    nearer = inl falls;
    ready = λ calm. if_else (urgent_first (fixed_in m) (at s.job)) (Nearer (told_of d) (told_of e)) ((told_of d).ready ≤ (told_of e).ready) (λ urgent v wait. (let none = waits_none urgent in absurd (cc (wait, none)))) (λ calm'. ready_same);
    seals = λ still sealing. (let none : false ≡ true = sym shut_switch ∙ sealing.switching in cc none);
    worn = worn_either s.worn refl;
    turn_taken = inr (inl (subst (λ (o : Option FeeJob). IsTrue (has_failed (at o) (Ended JobFailed []))) (sym is.job) refl));
  })

pub wears_out : WearsOut
wears_out m entry s listed kept count j on is = worn_out m entry s listed kept count j on is
