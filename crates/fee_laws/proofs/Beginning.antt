-- The parts of a device whose record begins.
use Rattle.std.specs.Prelude.{IfSome, IsSome, ◌&&◌, not, is_some, min, nat_le, take, length, if◌then◌else◌}
use Rattle.std.proofs.Common.{◌≡◌, inl, ◌≤◌, ◌+◌, ◌-◌, ℕ, Bool, true, false, List, [], Option, Some, None, refl, sym, ap, ◌∙◌, subst, arith}
use Rattle.std.proofs.lemmas.Bool.{leb-true, le-leb}
use Rattle.std.proofs.lemmas.List.{length-take-le}
use Rattle.nv_base.specs.Geometry.{sectors_of_bank, pages_of_bank}
use Rattle.nv_base.specs.declared.geometry.Geometry.{Geometry}
use Rattle.nv_base.specs.declared.instance.DeviceNumber.{DeviceNumber}
use Rattle.memif.specs.Told.{Slot, Stand, is_open}
use Rattle.fls_model.specs.Told.{Told}
use Rattle.fee_format.specs.declared.rec_head.RecHead.{RecHead}
use Rattle.fee_image.specs.Image.{bank_in}
use Rattle.fee_image.specs.RecordList.{pages_of_head}
use Rattle.fee_image.specs.Log.{Log, Open as LogOpen, Writes as LogWrites}
use Rattle.fee_image.specs.May.{May}
use Rattle.fee_image.specs.Step.{log_begun, IsRecord}
use Rattle.fee_image.specs.Banks.{Old, OldBank, Phase, Idle, Erasing, Copying, Sealing}
use Rattle.fee_image.specs.BankLaws.{TakesAppends}
use Rattle.fee_switch_laws.specs.fee_log.declared.tail.Tail.{Tail}
use Rattle.fee_switch_laws.specs.fee_log.declared.tail.Tail.TheVariants.{Open, Writes, Owes, Closed}
use Rattle.fee_switch_laws.specs.fee_log.Index.{clear_flags, with_flag}
use Rattle.fee_switch_laws.specs.fee_log.Log.{HasFormat, pages_in, work_in, free_in, free_behind, log_of, tail_begun, tail_with}
use Rattle.nv_base.specs.Lengths.{place_of}
use Rattle.fee_switch_laws.specs.fee_switch.declared.active.ActiveBank.{ActiveBank}
use Rattle.fee_course.specs.declared.course.Course.{Course}
use Rattle.fee_course.specs.declared.course.Course.TheVariants as course
use Rattle.fee_switch_laws.specs.fee_switch.Banks.{TakesRecord, appended_at, begun_again, left_of, left_with, left_beside}
use Rattle.fee_switch_laws.specs.Shown.{old_shown}
use Rattle.fee_switch_laws.specs.KeepsRoom.{KeepsRoom}
use Rattle.fee_switch_laws.specs.Space.{free_pages, has_room}
use Rattle.fee_switch_laws.proofs.RoomAppends.{records_keep_room}
use Rattle.fee_switch_laws.proofs.RoomPages.{clear_flags_stay}
use Rattle.fee_switch_laws.proofs.Appends.{takes}
use Rattle.fee_switch_laws.proofs.Turns.{left_begins}
use Rattle.promise_device.specs.Making.{Making, banks_of}
use Rattle.fee_told.specs.Slots.{Memory, IsWorkOf, slots_found}
use Rattle.fee_told.specs.SlotLaws.{IsHeld, SamePlaces}
use Rattle.fee_told.proofs.Clocks.{clocks_stay}
use Rattle.fee_told.specs.Device.{Device, tells_now, told_of, slots_in, clock_of, flash_device, is_switching}
use Rattle.fee_told.specs.Turns.{is_sealing}
use Rattle.memif.specs.Clock.{SameClock}
use Rattle.fee_told.specs.Kept.{with_log}
use Rattle.fee_told.proofs.Appends.{records_begin}
use Rattle.fee_told.proofs.Steps.{places_tell}
use Rattle.fee_laws.specs.declared.job.FeeJob.{FeeJob}
use Rattle.fee_laws.specs.Inside.{Parts, body_of, device_of, memory_of, stand_of, IsActiveOf, IsAtWork, HasSwitch, HoldsBehind, LeavesKept}
use Rattle.fee_laws.specs.Record.{head_of, IsJobOf}
use Rattle.fee_laws.specs.Work.{pages_of_op, pages_of_job, pages_free, work_of, is_waiting, begins_next, fits_in, claimed, needs_switch, seal_turns, switch_turns, turns_before, turns_beside, takes_append, is_urgent_job, is_promised}
use Rattle.fee_told.specs.Figures.{OpenWork, turns_owed, left_of as turns_told, ready_of, wait_of}
use Rattle.fee_told.specs.FigureLaws.{IsWork}
use Rattle.fee_laws.proofs.Figures.{and_false, switch_is, free_is}
use Rattle.fee_laws.proofs.Appended.{has_switch, flags_clear, open_work}
use Rattle.fee_laws.specs.Turn.{IsOn}
use Rattle.fee_laws.specs.Begins.{IsUnsealed, HasBegun, MayBegin, begun_with}
use Rattle.fee_laws.proofs.Before.{lengths, legal, some, copied, held_at, log_geometry, log_banks, power}
use Rattle.fee_laws.proofs.Order.{tells_by}
use Rattle.fee_laws.proofs.Heads.{IsAmong, among, mark_is, legal_head}
use Rattle.fee_laws.proofs.Marks.{counted_by}
use Rattle.fee_laws.proofs.Begun.{no_course, Ready, opens, owes, ready_by, free_less, begun_work, begun_pages, begun_owed, ready_pages, room_is}
use Rattle.fee_laws.proofs.Beside.{appended_phase, appended_takes, appended_none, takes_now}
use Rattle.fee_laws.proofs.GoneOn.{no_seal}
use Rattle.fee_laws.proofs.Shown.{few_by, pages_by}
use Rattle.fee_laws.proofs.FollowLifts.{some_of}
use Rattle.fee_laws.proofs.BehindNone.{AsksNone, makes_none, held_behind}

-- a bank is active where pages are free
is_active : (o : Option ActiveBank) (n : ℕ) → 1 ≤ (if is_some o then n else 0) → IsSome o
is_active None n free = absurd (omega (arith, free))
is_active (Some a) n free = refl

free_of : (o : Option ActiveBank) (n : ℕ) → IsSome o → (if is_some o then n else 0) ≡ n
free_of None n some = cc
free_of (Some a) n some = refl

-- as many turns are left of the same work
pub left_alike : (st : Stand) (v w : OpenWork) → v.pages ≡ w.pages → v.owed ≡ w.owed → v.switch ≡ w.switch → turns_told st v ≡ turns_told st w
left_alike st v w pages owed switch = λ i. turns_told st (record { pages = pages i; owed = owed i; switch = switch i })

-- a switch that takes appends isn't at its seal
unsealed_by : (x : Phase) → TakesAppends x → is_sealing x ≡ false
unsealed_by Idle taking = refl
unsealed_by (Erasing n) taking = refl
unsealed_by (Copying log) taking = refl
unsealed_by (Sealing log) taking = absurd taking

pub and_four' : (a c d : Bool) → a && false && c && d ≡ false
and_four' true c d = refl
and_four' false c d = refl

module _ (m : Making) (entry : Told) (s : Parts) (listed : List (DeviceNumber × ℕ)) (kept count : ℕ) (j : FeeJob) (on : IsOn m entry s listed kept count) (may : MayBegin m s j) where
  abbrev pub t : Parts
  t = begun_with may.kind j s

  abbrev pub r : RecHead
  r = head_of s.banks.log may.kind j

  abbrev d : Device
  d = device_of m entry s

  abbrev pub e : Device
  e = device_of m entry t

  abbrev p : ℕ
  p = s.banks.geometry.page

  pub was_at_work : IsAtWork m s
  was_at_work = on.sound.works on.started

  pub job_of : IsJobOf m.numbers j
  job_of = subst (λ (o : Option FeeJob). IfSome o (IsJobOf m.numbers)) may.job was_at_work.job

  number : IsAmong 0 j.number.0 job_of.length
  number = among 0 m.numbers j.number.0 job_of.length (lengths m entry s listed kept count on) job_of.configured

  pub pages_are : pages_of_head p r ≡ pages_of_op p j.op j.length
  pages_are = pages_by p j.op may.kind j.number j.length job_of.length r.count may.writes job_of.fits

  -- it has room
  pub has_free : pages_of_head p r ≤ free_pages s.banks
  has_free = let room = room_is j.urgent (pages_of_op p j.op j.length) m.reserve (free_pages s.banks) may.room in let same = pages_are in omega (arith, room, same)

  pub active : IsSome s.banks.active
  active = let free = has_free in is_active s.banks.active (free_in s.banks.log) (omega (arith, free))

  abbrev a : ActiveBank
  a = (some_of s.banks.active active).0

  pub active_is : s.banks.active ≡ Some a
  active_is = (some_of s.banks.active active).1

  pub formats : s.banks.log.format ≡ a.head.format
  formats = subst (IsActiveOf s.banks) active_is was_at_work.active

  log_free : pages_of_head p r ≤ free_in s.banks.log
  log_free = let free = has_free in let is = free_of s.banks.active (free_in s.banks.log) active in omega (arith, free, is)

  pub ready : Ready s.banks.log.tail
  ready = let free = log_free in ready_by s.banks.log.geometry.page (pages_in s.banks.log) s.banks.log.end s.banks.log.tail may.idle (omega (arith, free))

  abbrev pub place : Option ℕ
  place = place_of s.banks.log.numbers r.number.0

  pub taken_then : TakesRecord r.kind t.banks.course
  taken_then = appended_takes r.kind place s.banks.course may.taken

  pub work_is : work_in t.banks.log.tail ≡ Some r
  work_is = begun_work s.banks.log.tail r ready

  -- MEMORY
  abbrev was : Log
  was = log_of s.banks.log []

  abbrev body : List ℕ
  body = take j.length s.content

  none_body : body_of (work_in s.banks.log.tail) s.content ≡ []
  none_body = ap (λ (o : Option RecHead). body_of o s.content) may.idle

  old_is : (memory_of s).old ≡ OldBank a.bank a.head was
  old_is = (λ i. old_shown (active_is i) s.banks.log (none_body i))

  abbrev target_body : List ℕ
  target_body = body_of (work_in s.banks.copies.tail) s.banks.buffer

  phase_is : (memory_of t).phase ≡ (memory_of s).phase
  phase_is = appended_phase place s.banks.course s.banks t.banks.log t.banks.course target_body

  pub taking : TakesAppends (memory_of s).phase
  taking = takes r.kind s.banks.course s.banks target_body may.taken

  few : j.length ≤ length s.content
  few = let x = few_by j.op j.length job_of.length number.few job_of.fits in omega (arith, x, on.sound.made_for.room)

  -- what stands in memory then, where nothing is owed and where a gate is
  log_open : s.banks.log.tail ≡ Open → log_of t.banks.log (body_of (work_in t.banks.log.tail) s.content) ≡ log_begun was r body
  log_open at = λ i. log_of (record s.banks.log { tail = tail_begun (at i) r; flags = t.banks.log.flags }) (body_of (work_in (tail_begun (at i) r)) s.content)

  log_owed : (owed : RecHead) → s.banks.log.tail ≡ Owes owed None → log_of t.banks.log (body_of (work_in t.banks.log.tail) s.content) ≡ was
  log_owed owed at = (λ i. log_of (record s.banks.log { tail = tail_begun (at i) r; flags = t.banks.log.flags }) (body_of (work_in (tail_begun (at i) r)) s.content)) ∙ ap (λ (x : Tail). log_of (record s.banks.log { tail = x }) []) (sym at)

  memory_is : (x : Log) → log_of t.banks.log (body_of (work_in t.banks.log.tail) s.content) ≡ x → memory_of t ≡ with_log (memory_of s) a.bank a.head x (memory_of s).stand
  memory_is x same = (λ i. record { old = old_shown (active_is i) t.banks.log (body_of (work_in t.banks.log.tail) s.content); target = s.banks.target; phase = phase_is i; stand = (memory_of s).stand }) ∙ (λ i. record { old = OldBank a.bank a.head (same i); target = s.banks.target; phase = (memory_of s).phase; stand = (memory_of s).stand })

  same_is : with_log (memory_of s) a.bank a.head was (memory_of s).stand ≡ (memory_of s)
  same_is = λ i. record { old = sym old_is i; target = s.banks.target; phase = (memory_of s).phase; stand = (memory_of s).stand }

  -- THE BYTES
  record_at : s.banks.log.tail ≡ Open → IsRecord (bank_in (banks_of m) a.head.format a.bank) was.end r body
  record_at at =
      let free = log_free in
      let is : free_in s.banks.log ≡ pages_in s.banks.log - (s.banks.log.end + 0) = ap (λ (x : Tail). free_behind s.banks.log.geometry.page (pages_in s.banks.log) s.banks.log.end x) at in
      let one : s.banks.log.end + pages_of_head p r ≤ pages_in s.banks.log = omega (arith, free, is) in
      let two = subst (λ (g : Geometry). s.banks.log.end + pages_of_head p r ≤ pages_of_bank g s.banks.log.banks) (log_geometry m entry s listed kept count on) one in
      let three = subst (λ (n : ℕ). s.banks.log.end + pages_of_head p r ≤ pages_of_bank m.geometry n) (log_banks m entry s listed kept count on) two in
      record {
        format = sym formats ∙ subst (HasFormat s.banks.log.format) at on.log.format;
        legal = legal_head j.op may.kind j.number j.length job_of.length r.count may.writes number may.configured.count job_of.fits;
        size = length-take-le j.length s.content few;
        room = subst (λ (g : Geometry). s.banks.log.end + pages_of_head g.page r ≤ pages_of_bank m.geometry m.banks) on.sound.made_for.banks_geometry three;
      }

  work_of_job : IsWorkOf m.numbers s.banks.log.places (memory_of s).stand (LogWrites r body 0)
  work_of_job = subst (λ (o : Option FeeJob). IsWorkOf m.numbers s.banks.log.places (stand_of s.content o s.last s.given) (LogWrites r body 0)) (sym may.job) (refl, mark_is j.op may.kind j.number j.length r.count s.content may.writes, counted_by s.banks.log.numbers m.numbers s.banks.log.places j.number.0 on.sound.made_for.numbers)

  pub held_by : (tl : Tail) → s.banks.log.tail ≡ tl → Ready tl → (bytes : List ℕ) (more : May) → IsHeld (banks_of m) m.numbers bytes (memory_of s) more → IsHeld (banks_of m) m.numbers bytes (memory_of t) more
  held_by Open at opens bytes more held =
      let tail : was.tail ≡ LogOpen = ap (λ (x : Tail). tail_with x []) at in
      let kept' = records_begin (banks_of m) m.numbers bytes (memory_of s) more a.bank a.head was r body (record { lengths = lengths m entry s listed kept count on; legal = legal m entry s listed kept count on; held = held; bank = old_is; takes = taking }) tail (record_at at) work_of_job in
      subst (λ (x : Memory). IsHeld (banks_of m) m.numbers bytes x more) (sym (memory_is (log_begun was r body) (log_open at))) kept'.held
  held_by (Owes owed None) at (owes _) bytes more held = subst (λ (x : Memory). IsHeld (banks_of m) m.numbers bytes x more) (sym (memory_is was (log_owed owed at) ∙ same_is)) held
  held_by (Writes _ _) at x bytes more held = elim x [ ]
  held_by (Owes _ (Some _)) at x bytes more held = elim x [ ]
  held_by Closed at x bytes more held = elim x [ ]

  pub places_by : (tl : Tail) → s.banks.log.tail ≡ tl → Ready tl → SamePlaces (memory_of s).old (memory_of t).old
  places_by Open at opens = subst (λ (o : Old). SamePlaces o (memory_of t).old) (sym old_is) (subst (λ (o : Old). SamePlaces (OldBank a.bank a.head was) o) (sym (ap (λ (x : Memory). x.old) (memory_is (log_begun was r body) (log_open at)))) (refl, refl, refl))
  places_by (Owes owed None) at (owes _) = subst (λ (o : Old). SamePlaces o (memory_of t).old) (sym old_is) (subst (λ (o : Old). SamePlaces (OldBank a.bank a.head was) o) (sym (ap (λ (x : Memory). x.old) (memory_is was (log_owed owed at)))) (refl, refl, refl))
  places_by (Writes _ _) at x = elim x [ ]
  places_by (Owes _ (Some _)) at x = elim x [ ]
  places_by Closed at x = elim x [ ]

  slots_are : (x : List ℕ) → slots_in e x ≡ slots_in d x
  slots_are x = ap (λ (z : List Slot). if s.started then z else slots_found (banks_of m) m.numbers x) (places_tell (banks_of m) m.numbers x (memory_of s) (memory_of t) (places_by s.banks.log.tail refl ready) refl)

  pub same_slots : (told_of e).slots ≡ (told_of d).slots
  same_slots = tells_by (tells_now d) s.fls.flash.bytes (slots_in e) (slots_in d) slots_are

  pub none : AsksNone m entry s t
  none = record { only = refl; more = omega arith; counted = inl refl; worn = λ since worn. inl worn }

  pub same_clock : SameClock (clock_of d) (clock_of e)
  same_clock = clocks_stay (flash_device d) (flash_device e) (makes_none m entry s listed kept count on t none) (λ n. refl)

  pub behind : HoldsBehind e
  behind = held_behind m entry s listed kept count on t none (copied m entry s listed kept count on) (λ bytes at told. held_by s.banks.log.tail refl ready bytes (copied m entry s listed kept count on) (held_at m entry s listed kept count on bytes at told))

  -- THE SWITCH
  pub room_on : KeepsRoom m.reserve t.banks
  room_on = records_keep_room m.reserve s.banks r on.banks (on.sound.room on.started (power m entry s listed kept count on)) may.idle may.taken may.configured has_free

  flags : t.banks.course ≡ None → t.banks.log.flags ≡ clear_flags t.banks.log.numbers
  flags shut =
      ap (λ (x : List Bool). with_flag s.banks.log.numbers x r.number.0 false) (flags_clear s.banks s.banks.course was_at_work.switch (appended_none place s.banks.course shut))
      ∙ clear_flags_stay s.banks.log.numbers r.number.0

  pub switch_on : HasSwitch t.banks t.banks.course
  switch_on = has_switch m.reserve t.banks t.banks.course flags room_on.switch

  -- THE FIGURES
  abbrev pub v : OpenWork
  v = work_of m.reserve t.banks s.job

  abbrev w : OpenWork
  w = work_of m.reserve s.banks s.job

  some_work : IsSome (work_in t.banks.log.tail)
  some_work = ap (λ (o : Option RecHead). is_some o) work_is

  wanted : pages_of_job p s.job ≡ pages_of_op p j.op j.length
  wanted = ap (pages_of_job p) may.job

  pub pages_then : v.pages ≡ pages_of_job p s.job
  pages_then = begun_pages p (pages_of_job p s.job) s.banks.log.tail r (pages_are ∙ sym wanted) ready

  pages_same : v.pages ≡ w.pages
  pages_same = pages_then ∙ sym (ready_pages p (pages_of_job p s.job) s.banks.log.tail ready)

  owed_same : v.owed ≡ w.owed
  owed_same = begun_owed s.banks.log.tail r ready

  waiting : is_waiting s.banks j ≡ true
  waiting =
      let same = pages_are in
      let some' : 1 ≤ pages_of_op p j.op j.length = omega (arith, same) in
      (λ i. le-leb 1 (pages_of_op p j.op j.length) some' i && not (is_some (may.idle i)))

  begins : j.urgent ≡ true → begins_next s.banks j ≡ true
  begins urgent =
      let fits : fits_in 0 s.banks j ≡ true = (λ i. has_room (urgent i) (pages_of_op p j.op j.length) 0 (free_pages s.banks)) ∙ sym (λ i. has_room (urgent i) (pages_of_op p j.op j.length) m.reserve (free_pages s.banks)) ∙ may.room in
      λ i. takes_now r.kind s.banks.course may.taken i && urgent i && waiting i && fits i

  -- beside a switch its number is copied again, which is counted before; and a record with room needs none
  beside_is : j.urgent ≡ true → turns_beside s.banks s.job ≡ left_beside s.banks j.number.0
  beside_is urgent = ap (turns_beside s.banks) may.job ∙ ap (λ (b : Bool). if b then left_beside s.banks j.number.0 else left_of s.banks) (begins urgent)

  none_needed : needs_switch m.reserve s.banks s.job ≡ false
  none_needed = ap (needs_switch m.reserve s.banks) may.job ∙ ap (λ (b : Bool). is_waiting s.banks j && not b) may.room ∙ and_false (is_waiting s.banks j)

  switch_by : (c : Option Course) → s.banks.course ≡ c → left_of t.banks ≡ switch_turns m.reserve s.banks s.job c
  switch_by None at =
      ap (λ (o : Option Course). left_with t.banks (appended_at place o)) at
      ∙ ap (left_with t.banks) (no_course place)
      ∙ sym (ap (λ (b : Bool). if b then left_of (begun_again s.banks (course.Erase 0)) else 0) none_needed)
  switch_by (Some c) at = left_begins s.banks r on.log may.configured ∙ sym (beside_is (may.beside (ap (λ (o : Option Course). is_some o) at)))

  switch_then : v.switch ≡ left_of t.banks
  switch_then = switch_is t.banks some_work m.reserve s.job

  switch_same : v.switch ≡ w.switch
  switch_same = switch_then ∙ switch_by s.banks.course refl

  left_same : (told_of e).left ≡ (told_of d).left
  left_same = left_alike (stand_of s.content s.job s.last s.given) v w pages_same owed_same switch_same

  pub work_then : IsWork m.geometry.page (sectors_of_bank m.geometry m.banks) m.numbers m.reserve (stand_of s.content s.job s.last s.given) v
  work_then =
      open_work m s j t.banks v may.job job_of (record { geometry = on.sound.made_for.banks_geometry; shared = on.sound.made_for.shared; numbers = on.sound.made_for.numbers }) switch_on
      (let one = pages_then in let two = wanted in omega (arith, one, two)) switch_then

  -- free pages
  free_then : pages_free t.banks s.job ≡ free_pages s.banks - pages_of_op p j.op j.length
  free_then =
      let one = free_is t.banks some_work s.job in
      let two = free_of s.banks.active (free_in t.banks.log) active in
      let three = free_of s.banks.active (free_in s.banks.log) active in
      let g = ap (λ (x : Geometry). pages_of_head x.page r) on.banks.log.shape in
      let four : free_in t.banks.log ≡ free_in s.banks.log - pages_of_head s.banks.log.geometry.page r = free_less s.banks.log.geometry.page (pages_in s.banks.log) s.banks.log.end s.banks.log.tail r ready in
      let five = pages_are in
      omega (arith, one, two, three, four, five, g)

  -- an urgent write had its pages taken off already, and any other leaves what is kept
  ready_by_test : (u : Bool) → j.urgent ≡ u → ready_of m.reserve false (pages_free t.banks s.job) ≡ ready_of m.reserve false (pages_free s.banks s.job)
  ready_by_test true urgent =
      let one : claimed s.banks s.job ≡ pages_of_op p j.op j.length = ap (claimed s.banks) may.job ∙ ap (λ (b : Bool). if b then pages_of_op p j.op j.length else 0) (begins urgent) in
      ap (ready_of m.reserve false) (let two = free_then in let goal : pages_free t.banks s.job ≡ free_pages s.banks - claimed s.banks s.job = omega (arith, one, two) in goal)
  ready_by_test false calm =
      let none_begins : begins_next s.banks j ≡ false = (λ i. takes_append s.banks.course && calm i && is_waiting s.banks j && fits_in 0 s.banks j) ∙ and_four' (takes_append s.banks.course) (is_waiting s.banks j) (fits_in 0 s.banks j) in
      let one : claimed s.banks s.job ≡ 0 = ap (claimed s.banks) may.job ∙ ap (λ (b : Bool). if b then pages_of_op p j.op j.length else 0) none_begins in
      let room : has_room false (pages_of_op p j.op j.length) m.reserve (free_pages s.banks) ≡ true = (λ i. has_room (sym calm i) (pages_of_op p j.op j.length) m.reserve (free_pages s.banks)) ∙ may.room in
      let enough = leb-true (pages_of_op p j.op j.length + m.reserve) (free_pages s.banks) room in
      let two = free_then in
      let goal : min m.reserve (pages_free t.banks s.job) ≡ min m.reserve (free_pages s.banks - claimed s.banks s.job) = omega (arith, one, two, enough) in goal

  -- so it keeps them beside it
  pub kept_on : LeavesKept m.reserve t.banks s.job
  kept_on work calm =
      let own : j.urgent ≡ false = sym (ap is_urgent_job may.job) ∙ calm in
      let room : has_room false (pages_of_op p j.op j.length) m.reserve (free_pages s.banks) ≡ true = (λ i. has_room (sym own i) (pages_of_op p j.op j.length) m.reserve (free_pages s.banks)) ∙ may.room in
      let enough = leb-true (pages_of_op p j.op j.length + m.reserve) (free_pages s.banks) room in
      let all = free_is t.banks some_work s.job in
      let less = free_then in
      omega (arith, enough, all, less)

  seal : seal_turns s.banks.course ≡ 0
  seal = no_seal r.kind s.banks.course may.taken

  seal_then : seal_turns t.banks.course ≡ 0
  seal_then = no_seal r.kind t.banks.course taken_then

  ready_same : (told_of e).ready ≡ (told_of d).ready
  ready_same =
      ap (λ (n : ℕ). ready_of m.reserve (nat_le 1 n) (pages_free t.banks s.job)) seal_then
      ∙ ready_by_test j.urgent refl
      ∙ sym (ap (λ (n : ℕ). ready_of m.reserve (nat_le 1 n) (pages_free s.banks s.job)) seal)

  before_same : turns_before t.banks.log.tail (seal_turns t.banks.course) ≡ turns_before s.banks.log.tail (seal_turns s.banks.course)
  before_same = ap (turns_before t.banks.log.tail) seal_then ∙ ap turns_owed owed_same ∙ sym (ap (turns_before s.banks.log.tail) seal)

  wait_same : (told_of e).wait ≡ (told_of d).wait
  wait_same = λ i. wait_of (record { before = before_same i; urgent = is_urgent_job s.job; promised = is_promised s.job; pages = pages_same i })

  only : told_of e ≡ record (told_of d) { switching = (told_of e).switching; left = (told_of e).left }
  only = λ i. record (told_of e) { slots = same_slots i; ready = ready_same i; wait = wait_same i }

  pub has_begun : HasBegun (told_of d) (told_of e) (clock_of d) (clock_of e)
  has_begun = record {
    only = only;
    left = left_same;
    job = subst (λ (o : Option FeeJob). is_open (stand_of s.content o s.last s.given) ≡ true) (sym may.job) refl;
    switching = λ is. ap (λ (x : Phase). s.started && is_switching x) phase_is ∙ is;
    on = (power m entry s listed kept count on, refl);
    same = same_clock;
  }

  pub unsealed : IsUnsealed s × IsUnsealed t
  unsealed = let here = unsealed_by (memory_of s).phase taking in (here, ap is_sealing phase_is ∙ here)
