-- The turn of a read.
use Rattle.std.specs.Prelude.{IfSome, IsTrue, ◌&&◌, not, is_some, nat_le, length, take, option_map, if◌then◌else◌}
use Rattle.std.proofs.Common.{◌≡◌, ◌≢◌, inl, ◌≤◌, ◌<◌, ◌+◌, ◌==◌, ℕ, Bool, true, false, List, [], Option, Some, None, refl, sym, ap, ◌∙◌, subst, arith}
use Rattle.nv_base.specs.Count.{Rose}
use Rattle.nv_base.specs.declared.instance.DeviceNumber.{DeviceNumber}
use Rattle.nv_base.specs.declared.job.DeviceOp.{DeviceOp}
use Rattle.nv_base.specs.declared.job.DeviceOp.TheVariants.{Read}
use Rattle.nv_base.specs.declared.mark.Mark.{Mark}
use Rattle.memif.specs.declared.answer.DeviceTurn.TheVariants as turn
use Rattle.memif.specs.declared.answer.JobResult.{JobResult}
use Rattle.memif.specs.declared.answer.JobResult.TheVariants.{JobFailed, JobPending}
use Rattle.memif.specs.Told.{DeviceTold, First, Job, Slot, Stand, Ended, is_open, length_of, slot_at}
use Rattle.memif.specs.Calls.{JobTurns, EndsAs, Nearer, Reads, ReadsAt, Gives, urgent_first}
use Rattle.fls_model.specs.Told.{Told, ToldBytes, bytes_now}
use Rattle.fls_jobs.specs.declared.answer.FlsResult.{FlsResult}
use Rattle.fee_format.specs.declared.rec_head.RecHead.{RecHead}
use Rattle.fee_image.specs.May.{May}
use Rattle.fee_image.specs.Banks.{Old}
use Rattle.fee_image.specs.Copies.{Flag, copied_of}
use Rattle.fee_image.specs.Doubts.{shown_of}
use Rattle.fee_switch_laws.specs.fee_log.declared.tail.Tail.{Tail}
use Rattle.fee_switch_laws.specs.fee_log.declared.tail.Tail.TheVariants as tail
use Rattle.fee_switch_laws.specs.fee_log.Log.{LogState, work_in}
use Rattle.fee_switch_laws.specs.fee_switch.declared.active.ActiveBank.{ActiveBank}
use Rattle.fee_course.specs.declared.course.Course.{Course}
use Rattle.fee_course.specs.declared.course.Course.TheVariants as course
use Rattle.fee_switch_laws.specs.fee_switch.Banks.{BanksState, begun_again, left_of as switch_left, left_beside}
use Rattle.fee_switch_laws.specs.Shown.{old_shown}
use Rattle.promise_device.specs.Making.{Making, banks_of}
use Rattle.fee_told.specs.Slots.{Memory, HasJob, job_leaves, left_by, slots_found, slots_with, settled_in}
use Rattle.fee_told.specs.SlotLaws.{IsHeld}
use Rattle.fee_told.specs.Device.{Device, tells_now, told_of, slots_in, clock_of}
use Rattle.fee_told.specs.Figures.{ready_of, turns_of, left_of as turns_left}
use Rattle.fee_told.proofs.Jobs.{jobs_change}
use Rattle.fee_told.proofs.ToldBytes.{now_at}
use Rattle.fee_laws.specs.declared.job.FeeJob.{FeeJob}
use Rattle.fee_laws.specs.Copied.{flags_of, IsCopying}
use Rattle.fee_laws.specs.Inside.{Parts, body_of, device_of, memory_of, mark_of, stand_of, fixed_in, flags_in, HoldsBehind, IsAtWork, ShowsCopies, TellsCopies}
use Rattle.fee_laws.specs.Record.{IsInWork, IsJobOf}
use Rattle.fee_laws.specs.Work.{work_of, switch_turns, begins_next, claimed, pages_free, pages_of_op, seal_turns, is_waiting, fits_in, takes_append}
use Rattle.fee_laws.specs.Turn.{Turned}
use Rattle.fee_laws.specs.Reads.{IsReading}
use Rattle.fee_laws.proofs.Before.{power, lengths, legal, copied, held_at, each_now}
use Rattle.fee_laws.proofs.Order.{urgent_is, tells_by}
use Rattle.fee_laws.proofs.Heads.{not_read}
use Rattle.fee_laws.proofs.Marks.{same_with}
use Rattle.fee_laws.proofs.Appended.{IsShaped, resting_work, idle_at_work}
use Rattle.fee_laws.proofs.GoneOn.{if_else}
use Rattle.fee_laws.proofs.Figures.{and_four}
use Rattle.fee_laws.proofs.Taken.{takes_one}
use Rattle.fee_laws.proofs.BehindNone.{AsksNone, Counted, Facts, held_behind, worked}

-- no record is in work while a read is open
idle_by : (s : BanksState) (job : Option FeeJob) (j : FeeJob) (o : Option RecHead) → job ≡ Some j → j.op ≡ Read → IfSome o (IsInWork s job) → o ≡ None
idle_by s job j None open' op work = refl
idle_by s job j (Some r) open' op work =
    let is = work.is_open in
    let same : work.of ≡ j = cc (is, open') in
    absurd (not_read work.of.op r.kind work.writes (ap (λ (x : FeeJob). x.op) same ∙ op))

-- an ended job has no record in work
pub has_none : (ns : List (DeviceNumber × ℕ)) (o : Option ActiveBank) (log : LogState) (t : Tail) (body given : List ℕ) (result : JobResult) → work_in t ≡ None → HasJob ns (Ended result given) (old_shown o (record log { tail = t }) body)
has_none ns None log t body given result idle = tt
has_none ns (Some a) log tail.Open body given result idle = tt
has_none ns (Some a) log (tail.Writes h done) body given result idle = cc idle
has_none ns (Some a) log (tail.Owes h next) body given result idle = tt
has_none ns (Some a) log tail.Closed body given result idle = tt

empty_by : (b : Bool) (none : List Mark) → (if b then none else none) ≡ none
empty_by true none = refl
empty_by false none = refl

-- a read has no turns beside its own and the switch's
ends_alone : (reserve : ℕ) (b : BanksState) (j : FeeJob) (c : Option Course) → is_waiting b j ≡ false → begins_next b j ≡ false → switch_turns reserve b (Some j) c ≡ switch_turns reserve b None c
ends_alone reserve b j None waits begins = ap (λ (x : Bool). if x && not (fits_in reserve b j) then switch_left (begun_again b (course.Erase 0)) else 0) waits
ends_alone reserve b j (Some c) waits begins = ap (λ (x : Bool). if x then left_beside b j.number.0 else switch_left b) begins

reads_by : (number : ℕ) (b : Bool) (o : Option ToldBytes) (slots : List ℕ → List Slot) (numbers : List (DeviceNumber × ℕ)) (old : DeviceTold) (result : JobResult) (given : List ℕ)
    → ((bytes : List ℕ) → option_map (λ (y : ToldBytes). y.now) o ≡ Some bytes → b ≡ true → Reads (slot_at old.fixed.numbers (slots bytes) number).settled.mark result given)
    → ReadsAt number (if b then option_map slots (option_map (λ (y : ToldBytes). y.now) o) else None) result given old
reads_by number false o slots numbers old result given each = tt
reads_by number true None slots numbers old result given each = tt
reads_by number true (Some y) slots numbers old result given each = each y.now refl refl

module _ (m : Making) (entry : Told) (s : Parts) (listed : List (DeviceNumber × ℕ)) (kept count : ℕ) (j : FeeJob) (is : IsReading m entry s listed kept count j) (flash_faults : ℕ) (fls_result : FlsResult) (content : List ℕ) (result : JobResult) (given faults : ℕ) (more : s.fls.flash.faults ≤ flash_faults) (counted : Counted s.fls.flash.faults flash_faults s.faults faults) (room : length content ≡ 4096) (ended : result ≢ JobPending) (few_given : given ≤ 4096) where
  abbrev pub t : Parts
  t = record s { fls = record s.fls { flash = record s.fls.flash { faults = flash_faults }; result = fls_result }; content = content; job = None; last = result; given = given; faults = faults }

  abbrev d : Device
  d = device_of m entry s

  abbrev e : Device
  e = device_of m entry t

  abbrev stand : Stand
  stand = Ended result (take given content)

  at_work : IsAtWork m s
  at_work = is.on.sound.works is.on.started

  idle : work_in s.banks.log.tail ≡ None
  idle = idle_by s.banks s.job j (work_in s.banks.log.tail) is.job is.op at_work.work

  old_same : (memory_of t).old ≡ (memory_of s).old
  old_same = ap (λ (o : Option RecHead). old_shown s.banks.active s.banks.log (body_of o content)) idle ∙ sym (ap (λ (o : Option RecHead). old_shown s.banks.active s.banks.log (body_of o s.content)) idle)

  mem_is : memory_of t ≡ record (memory_of s) { stand = stand }
  mem_is = λ i. record { old = old_same i; target = s.banks.target; phase = (memory_of s).phase; stand = stand }

  has_job : HasJob m.numbers stand (memory_of s).old
  has_job = has_none m.numbers s.banks.active s.banks.log s.banks.log.tail (body_of (work_in s.banks.log.tail) s.content) (take given content) result idle

  held_then : (bytes : List ℕ) (wide : May) → IsHeld (banks_of m) m.numbers bytes (memory_of s) wide → IsHeld (banks_of m) m.numbers bytes (memory_of t) wide
  held_then bytes wide held = subst (λ (x : Memory). IsHeld (banks_of m) m.numbers bytes x wide) (sym mem_is)
      (jobs_change (banks_of m) m.numbers bytes (memory_of s) wide stand (record { lengths = lengths m entry s listed kept count is.on; legal = legal m entry s listed kept count is.on; held = held }) has_job)

  none : AsksNone m entry s t
  none = record { only = refl; more = more; counted = counted; worn = λ since worn. inl worn }

  behind : HoldsBehind e
  behind = held_behind m entry s listed kept count is.on t none (copied m entry s listed kept count is.on) (λ bytes at told. held_then bytes (copied m entry s listed kept count is.on) (held_at m entry s listed kept count is.on bytes at told))

  -- WHAT IS TOLD
  abbrev at : Option FeeJob → Stand
  at o = stand_of s.content o s.last s.given

  op_mark : mark_of j.op (take j.length s.content) ≡ None
  op_mark = ap (λ (o : DeviceOp). mark_of o (take j.length s.content)) is.op

  leaves_none : (n : ℕ) → job_leaves stand n ≡ job_leaves (memory_of s).stand n
  leaves_none n = sym (subst (λ (o : Option FeeJob). job_leaves (at o) n ≡ []) (sym is.job) (ap (λ (o : Option Mark). if j.number.0 == n then left_by o else []) op_mark ∙ empty_by (j.number.0 == n) []))

  slots_are : (x : List ℕ) → slots_in e x ≡ slots_in d x
  slots_are x = ap (λ (z : List Slot). if s.started then z else slots_found (banks_of m) m.numbers x)
      ((λ i. slots_with (shown_of (banks_of m) x (old_same i)) (job_leaves stand) m.numbers (settled_in (banks_of m) m.numbers x (old_same i)))
      ∙ same_with (shown_of (banks_of m) x (memory_of s).old) (job_leaves stand) (job_leaves (memory_of s).stand) m.numbers (settled_in (banks_of m) m.numbers x (memory_of s).old) leaves_none)

  same_slots : (told_of e).slots ≡ (told_of d).slots
  same_slots = tells_by (tells_now d) s.fls.flash.bytes (slots_in e) (slots_in d) slots_are

  -- THE TARGET
  shows_by : (x : List ℕ) (c : Option Course) → IfSome c (λ y. ShowsCopies m s y x) → IfSome c (λ y. ShowsCopies m t y x)
  shows_by x None shows = tt
  shows_by x (Some c) shows =
      let same : flags_in m t x ≡ flags_in m s x = ap (λ (o : Old). flags_of m.numbers s.banks.log.places s.banks.log.flags (settled_in (banks_of m) m.numbers x o)) old_same in
      record {
        held = subst (λ (y : List Flag). IsHeld (banks_of m) m.numbers x (memory_of t) (copied_of y)) (sym same) (held_then x (copied_of (flags_in m s x)) shows.held);
        copy = subst (λ (y : List Flag). IsCopying c (work_in s.banks.copies.tail) s.banks.buffer y) (sym same) shows.copy;
      }

  copies : TellsCopies m entry t
  copies on told = each_now s.fls.flash.bytes (λ (x : List ℕ). IfSome s.banks.course (λ c. ShowsCopies m t c x)) (λ bytes at'.
      shows_by bytes s.banks.course (now_at s.fls.flash.bytes (λ (x : List ℕ). IfSome s.banks.course (λ c. ShowsCopies m s c x)) bytes at' (is.on.sound.copies (power m entry s listed kept count is.on) told)))

  -- THE PARTS
  shaped : IsShaped m s.banks
  shaped = record { geometry = is.on.sound.made_for.banks_geometry; shared = is.on.sound.made_for.shared; numbers = is.on.sound.made_for.numbers }

  facts : Facts m entry s listed kept count is.on t none
  facts = record {
    ends = record { same = record { geometry = refl; banks = refl; numbers = refl }; room = room; given_few = few_given; ended = ended };
    behind = behind;
    work = resting_work m s.banks result (take given content) shaped at_work.switch;
    at_work = idle_at_work m t idle at_work.active tt tt at_work.switch;
    room = is.on.sound.room is.on.started (power m entry s listed kept count is.on);
    copies = copies;
    worn = λ since worn. record { passed = (is.on.sound.worn since worn).passed; shut = (is.on.sound.worn since worn).shut };
    still = λ none. none;
  }

  -- THE TURN
  abbrev asks : Job
  asks = record { number = j.number.0; mark = mark_of j.op (take j.length s.content); urgent = j.urgent }

  pub job_of : IsJobOf m.numbers j
  job_of = subst (λ (o : Option FeeJob). IfSome o (IsJobOf m.numbers)) is.job at_work.job

  calm_by : (b : Bool) → j.urgent ≡ b → j.urgent ≡ false
  calm_by true e' = let op = job_of.urgent e' in let read = is.op in cc (op, read)
  calm_by false e' = e'

  not_urgent : urgent_first (fixed_in m) (at s.job) ≡ false
  not_urgent = subst (λ (o : Option FeeJob). urgent_first (fixed_in m) (at o) ≡ false) (sym is.job) (urgent_is m asks ∙ calm_by j.urgent refl)

  none_waits : is_waiting s.banks j ≡ false
  none_waits = ap (λ (o : DeviceOp). nat_le 1 (pages_of_op s.banks.geometry.page o j.length) && not (is_some (work_in s.banks.log.tail))) is.op

  none_begins : begins_next s.banks j ≡ false
  none_begins = (λ i. takes_append s.banks.course && j.urgent && none_waits i && fits_in 0 s.banks j) ∙ and_four (takes_append s.banks.course) j.urgent (fits_in 0 s.banks j)

  none_claimed : claimed s.banks s.job ≡ 0
  none_claimed = ap (claimed s.banks) is.job ∙ ap (λ (b : Bool). if b then pages_of_op s.banks.geometry.page j.op j.length else 0) none_begins

  ready_same : (told_of d).ready ≤ (told_of e).ready
  ready_same =
      let none' = none_claimed in
      let free : pages_free s.banks None ≡ pages_free s.banks s.job = omega (arith, none') in
      let same = ap (ready_of m.reserve (nat_le 1 (seal_turns s.banks.course))) free in
      omega (arith, same)

  switch_same : switch_turns m.reserve s.banks s.job s.banks.course ≡ switch_turns m.reserve s.banks None s.banks.course
  switch_same = ap (λ (o : Option FeeJob). switch_turns m.reserve s.banks o s.banks.course) is.job ∙ ends_alone m.reserve s.banks j s.banks.course none_waits none_begins

  falls_at : (told_of e).left + 1 ≡ (told_of d).left
  falls_at =
      let same = switch_same in
      subst (λ (o : Option FeeJob). switch_turns m.reserve s.banks None s.banks.course + 1 ≡ turns_left (at o) (work_of m.reserve s.banks s.job)) (sym is.job)
      (subst (λ (o : Option Mark). switch_turns m.reserve s.banks None s.banks.course + 1 ≡ turns_of o (work_of m.reserve s.banks s.job) + switch_turns m.reserve s.banks s.job s.banks.course) (sym op_mark) (omega (arith, same)))

  lower : (told_of e).left < (told_of d).left
  lower = let one = falls_at in omega (arith, one)

  -- what it comes to, where it is told
  module _ (tells_so : (bytes : List ℕ) → bytes_now s.fls.flash ≡ Some bytes → IsTrue (tells_now d) → Reads (slot_at m.numbers (slots_in d bytes) j.number.0).settled.mark result (take given content)) (gives : Gives result (length_of m.numbers j.number.0) (take given content)) (may_fail : result ≡ JobFailed → Rose s.faults faults) where
    ends : EndsAs asks.mark asks.number result (take given content) (told_of d) (told_of e)
    ends = subst (λ (o : Option Mark). EndsAs o asks.number result (take given content) (told_of d) (told_of e)) (sym op_mark)
        (reads_by j.number.0 (tells_now d) s.fls.flash.bytes (slots_in d) m.numbers (told_of d) result (take given content) tells_so, gives)

    pub read_so : Turned m entry turn.Worked s t listed kept count false
    read_so = worked m entry s listed kept count is.on t none facts (record {
      something = subst (λ (o : Option FeeJob). not (is_open (at o)) && not (told_of d).switching ≡ false) (sym is.job) refl;
      job_turns = subst (λ (o : Option FeeJob). JobTurns First (at o) stand (told_of d) (told_of e) (clock_of e)) (sym is.job) (ends, λ failed. inl (may_fail failed));
      read = λ read. (refl, same_slots);
      nearer = inl lower;
      ready = λ calm. if_else (urgent_first (fixed_in m) (at s.job)) (Nearer (told_of d) (told_of e)) ((told_of d).ready ≤ (told_of e).ready) (λ urgent. (let calm' = not_urgent in absurd (cc (urgent, calm')))) (λ calm'. ready_same);
      seals = λ still sealing. record { switching = sealing.switching; ready = λ calm. (let same = ready_same in let had = sealing.ready not_urgent in omega (arith, same, had)) };
      worn = inl refl;
      turn_taken = takes_one m entry s t (λ on. on) falls_at;
    })
