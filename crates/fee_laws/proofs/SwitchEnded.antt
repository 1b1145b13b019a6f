-- The turn in which a switch ends.
use Rattle.std.specs.Prelude.{IfSome, IsTrue, ◌&&◌, not, nat_le, take, if◌then◌else◌}
use Rattle.std.proofs.Common.{◌≡◌, ◌≢◌, inl, inr, ◌≤◌, ◌<◌, ◌^◌, ◌+◌, ℕ, suc, Bool, true, false, List, [], Option, Some, None, refl, sym, ap, ◌∙◌, subst, arith}
use Rattle.std.proofs.lemmas.Bool.{cases_lt, le-leb}
use Rattle.nv_base.specs.Count.{next_count}
use Rattle.nv_base.specs.Geometry.{sectors_of_bank}
use Rattle.nv_base.specs.declared.instance.DeviceNumber.{DeviceNumber}
use Rattle.memif.specs.declared.answer.DeviceTurn.TheVariants as turn
use Rattle.memif.specs.declared.answer.JobResult.TheVariants.{JobFailed}
use Rattle.nv_base.specs.declared.mark.Mark.{Mark}
use Rattle.memif.specs.Told.{Job, Stand, Open, Ended, is_open}
use Rattle.memif.specs.Marks.{KeepsAll}
use Rattle.memif.specs.Calls.{Nearer, TurnsReady, urgent_first}
use Rattle.fls_model.specs.declared.flash.FlashAnswer.TheVariants.{Done}
use Rattle.fls_model.specs.Op.{Op}
use Rattle.fls_model.specs.Step.{IsStep}
use Rattle.fls_model.specs.Told.{Told}
use Rattle.fls_jobs.specs.State.{FlsState}
use Rattle.fee_format.specs.Formats.{new_format}
use Rattle.fee_switch_laws.specs.fee_log.declared.tail.Tail.{Tail}
use Rattle.fee_switch_laws.specs.fee_log.Log.{work_in}
use Rattle.fee_course.specs.declared.course.Course.{Course}
use Rattle.fee_course.specs.declared.course.Course.TheVariants as course
use Rattle.fee_switch_laws.specs.fee_switch.Banks.{BanksState, left_of}
use Rattle.fee_format.specs.declared.rec_head.RecHead.{RecHead}
use Rattle.fee_format.specs.declared.rec_head.RecordKind.{RecordKind}
use Rattle.fee_format.specs.declared.rec_head.RecordKind.TheVariants as kind
use Rattle.nv_base.specs.declared.job.DeviceOp.TheVariants.{Read}
use Rattle.fee_switch_laws.specs.fee_switch.declared.active.ActiveBank.{ActiveBank}
use Rattle.fee_switch_laws.specs.Shown.{old_shown, phase_shown}
use Rattle.fee_switch_laws.specs.KeepsRoom.{KeepsRoom}
use Rattle.fee_switch_laws.specs.Space.{free_pages}
use Rattle.fee_switch_laws.proofs.RoomSteps.{records_have_room, steps_keep_room, switches_make_room}
use Rattle.promise_device.specs.Making.{Making, banks_of}
use Rattle.fee_told.specs.Slots.{Memory}
use Rattle.fee_told.specs.fls_told.Runs.{HasRun}
use Rattle.fee_told.specs.Device.{Device, told_of, clock_of, tells, flash_device}
use Rattle.fee_told.specs.Figures.{OpenWork, turns_owed, turns_of, wait_of}
use Rattle.fee_told.specs.Turns.{owes, owes_gate, is_sealing, TakesTurn}
use Rattle.fee_told.specs.FigureLaws.{IsWork}
use Rattle.fee_told.proofs.Figures.{ready_stays, turns_lower, urgent_nears}
use Rattle.fee_told.proofs.Switches.{gates_end}
use Rattle.fee_told.proofs.Whole.{kept_is_told}
use Rattle.fee_told.proofs.ToldBytes.{before_told}
use Rattle.fee_laws.specs.declared.job.FeeJob.{FeeJob}
use Rattle.fee_laws.specs.Inside.{Parts, body_of, device_of, mark_of, stand_of, fixed_in, IsAtWork}
use Rattle.fee_laws.specs.Record.{IsReady, IsJobOf}
use Rattle.fee_laws.specs.Work.{work_of, waits_of, pages_free, begins_next, seal_turns, switch_turns, turns_before, is_owed}
use Rattle.fee_laws.specs.Turn.{Turned, operated}
use Rattle.fee_laws.specs.Switches.{IsStepping, IsBehind, StepTurned}
use Rattle.fee_laws.proofs.Before.{power}
use Rattle.fee_laws.proofs.Order.{urgent_is}
use Rattle.fee_laws.proofs.Behind.{Facts}
use Rattle.fee_laws.proofs.Turning.{worked}
use Rattle.fee_laws.proofs.SwitchFigures.{NoneBegins, switch_none, no_mark}
use Rattle.std.specs.Prelude.{Contains, length}
use Rattle.std.proofs.Common.{◌==◌, ◌∷◌}
use Rattle.std.proofs.lemmas.Bool.{cond_both, eqb-true, eqb-false}
use Rattle.nv_base.specs.declared.job.DeviceOp.{DeviceOp}
use Rattle.nv_base.specs.declared.job.DeviceOp.TheVariants.{Write, Invalidate, Erase}
use Rattle.nv_base.specs.Pages.{record_pages_of}
use Rattle.memif.specs.Told.{length_of}
use Rattle.fls_model.specs.Told.{bytes_now}
use Rattle.fee_image.specs.Log.{Log, Open as LogOpen}
use Rattle.fee_image.specs.May.{May}
use Rattle.fee_image.specs.Banks.{OldBank, Idle, next_head}
use Rattle.fee_image.specs.Copies.{copied_of}
use Rattle.fee_switch_laws.specs.fee_log.declared.tail.Tail.TheVariants.{Open, Writes, Owes, Closed}
use Rattle.fee_switch_laws.specs.fee_log.Log.{LogState, IsLengthFor, IsFor, log_of, tail_with}
use Rattle.fee_course.specs.declared.course.Course.TheVariants.{Gate}
use Rattle.fee_image.specs.Image.{Layout}
use Rattle.fls_model.specs.Step.{IsAsked}
use Rattle.fee_told.specs.Whole.{CutsKeep}
use Rattle.std.proofs.lemmas.Bool.{leb-true, le-leb}
use Rattle.std.proofs.Common.{◌-◌}
use Rattle.std.specs.Prelude.{is_some}
use Rattle.nv_base.specs.declared.geometry.Geometry.{Geometry}
use Rattle.fee_told.specs.Figures.{left_of as left_in}
use Rattle.fee_laws.specs.Work.{pages_of_job, pages_left}
use Rattle.fee_laws.proofs.SwitchFigures.{job_part}
use Rattle.fee_laws.proofs.SwitchNearer.{before_by, not_sealed}
use Rattle.fee_laws.proofs.Before.{each_now}
use Rattle.fee_switch_laws.specs.fee_switch.Banks.{left_with, begun_again, ended, stood, target_after, after_answer}
use Rattle.fee_switch_laws.specs.KeepsRoom.{IsTargetLog}
use Rattle.fee_switch_laws.specs.RoomLaws.{IsBehindSwitch}
use Rattle.fee_switch_laws.specs.Space.{most_pages, has_room}
use Rattle.fee_told.specs.SlotLaws.{IsHeld}
use Rattle.fee_told.specs.Kept.{IsKept}
use Rattle.fee_laws.specs.Inside.{memory_of, flags_in, HoldsBehind, IsActiveOf}
use Rattle.fee_laws.specs.Record.{IsLengthOf, kind_of}
use Rattle.fee_laws.proofs.Heads.{has_kind, head_with, same_kind}
use Rattle.fee_laws.specs.Work.{pages_of_op, fits_in, is_waiting, needs_switch, claimed}
use Rattle.fee_laws.specs.Switches.{step_op}
use Rattle.fee_laws.proofs.Operation.{run, left, started, are_told}
use Rattle.fee_laws.proofs.Behind.{held_behind}
use Rattle.fee_laws.proofs.Switching.{asked, not_worn, keeps, shows, may_in}
use Rattle.fee_laws.proofs.SwitchNearer.{switch_is_open, all_write, no_read, turns_keep, each_job, both_jobs}
use Rattle.fee_laws.proofs.SwitchShown.{roomy, standing}
use Rattle.fee_laws.proofs.SwitchHead.{next_is}
use Rattle.fee_laws.proofs.SwitchGate.{op, log, phase, step, page_leaves, cutting, stood as gate_stood}
use Rattle.fee_laws.proofs.GoneOn.{if_else}
use Rattle.fee_laws.proofs.Appended.{idle_at_work}
use Rattle.fee_laws.proofs.PageTraits.{step_seals, step_takes}

-- THE NEXT TARGET
pub target_other : (target banks : ℕ) → target < banks → 2 ≤ banks → let next = if target + 1 == banks then 0 else target + 1 in (next < banks) × (next ≡ target → ⊥)
target_other target banks less two =
    cond_both (target + 1 == banks) 0 (target + 1) (λ (n : ℕ). (n < banks) × (n ≡ target → ⊥))
    (λ e. (omega arith, λ same. (let last : target + 1 ≡ banks = eqb-true (target + 1) banks e in omega (arith, last, same))))
    (λ e. ((let other : target + 1 ≡ banks → ⊥ = eqb-false (target + 1) banks e in less_by (target + 1) banks (omega arith) other), λ same. omega (arith, same)))
  where
    less_by : (a b : ℕ) → a ≤ b → (a ≡ b → ⊥) → a < b
    less_by a b le other = elim (cases_lt a b) [ inl less' ↦ less' | inr more ↦ absurd (other (omega arith)) ]

-- A RECORD HAS ROOM
pub is_listed : (ns : List (DeviceNumber × ℕ)) (n size : ℕ) → length_of ns n ≡ Some size → Contains ns (record { 0 = n }, size)
is_listed [] n size is = cc is
is_listed (x ∷ xs) n size is =
    cond_both (x.0.0 == n) (Some x.1) (length_of xs n) (λ (o : Option ℕ). o ≡ Some size → Contains (x ∷ xs) (record { 0 = n }, size))
    (λ e is'. (0, omega arith, (let at : x.0.0 ≡ n = eqb-true x.0.0 n e in let same : x.1 ≡ size = cc is' in (λ i. (record { 0 = at i }, same i)))))
    (λ e is'. (let later = is_listed xs n size is' in (suc later.0, (let less = later.1 in omega (arith, less)), later.2))) is

length_for : (op : DeviceOp) (k : RecordKind) (got length : ℕ) → kind_of op ≡ Some k → IsLengthOf op got length → IsLengthFor k got length
length_for Read k got length writes is = cc writes
length_for Write k got length writes is = same_kind (λ (x : RecordKind). IsLengthFor x got length) kind.Content k writes is
length_for Invalidate k got length writes is = same_kind (λ (x : RecordKind). IsLengthFor x got length) kind.Invalid k writes is
length_for Erase k got length writes is = same_kind (λ (x : RecordKind). IsLengthFor x got length) kind.Erased k writes is

pub for_job : (numbers : List (DeviceNumber × ℕ)) (j : FeeJob) (kind : RecordKind) (count : ℕ) → kind_of j.op ≡ Some kind → IsJobOf numbers j → count < 2 ^ 32 → IsFor numbers (head_with kind j.number j.length count)
for_job numbers j kind count writes is counted =
    record { length = is.length; configured = is_listed numbers j.number.0 is.length is.configured; kind = length_for j.op kind j.length is.length writes is.fits; count = counted }

pub pages_for : (p : ℕ) (op : DeviceOp) (length of : ℕ) → op ≢ Read → IsLengthOf op length of → pages_of_op p op length ≡ record_pages_of length p
pages_for p Read length of writes fits = absurd (writes refl)
pages_for p Write length of writes fits = refl
pages_for p Invalidate length of writes fits = ap (λ (n : ℕ). record_pages_of n p) (sym fits)
pages_for p Erase length of writes fits = ap (λ (n : ℕ). record_pages_of n p) (sym fits)

pub job_fits : (reserve : ℕ) (b : BanksState) (j : FeeJob) → 16 ≤ b.geometry.page → j.op ≢ Read → IsJobOf b.log.numbers j → most_pages b.geometry.page b.log.numbers reserve ≤ free_pages b → fits_in reserve b j ≡ true
job_fits reserve b j low writes is room =
    let k = has_kind j.op writes in
    ap (λ (n : ℕ). has_room j.urgent n reserve (free_pages b)) (pages_for b.geometry.page j.op j.length is.length writes is.fits)
    ∙ records_have_room b.geometry.page reserve (free_pages b) b.log.numbers (head_with k.0 j.number j.length 0) j.urgent low (for_job b.log.numbers j k.0 0 k.1 is (omega arith)) room

-- so none needs another switch
pub no_need : (reserve : ℕ) (b : BanksState) (j : FeeJob) → fits_in reserve b j ≡ true → needs_switch reserve b (Some j) ≡ false
no_need reserve b j fits = ap (λ (x : Bool). is_waiting b j && not x) fits ∙ and_false (is_waiting b j)
  where
    and_false : (a : Bool) → a && false ≡ false
    and_false true = refl
    and_false false = refl

-- the turn of the gate, and what is left of a job's own
ends_by : (mark : Option Mark) (w v : OpenWork) → (mark ≡ None → ⊥) → w.pages + turns_owed w.owed + w.switch ≡ v.pages + turns_owed v.owed + v.switch + 1 + turns_owed w.owed
    → turns_of mark w + w.switch ≡ turns_of mark v + v.switch + 1 + turns_owed w.owed
ends_by None w v other one = absurd (other refl)
ends_by (Some mark) w v other one = one

module _ (m : Making) (entry : Told) (s : Parts) (listed : List (DeviceNumber × ℕ)) (kept count : ℕ) (doubtful : Bool) (made : BanksState) (f : FlsState) (is : IsStepping m entry s listed kept count (Gate doubtful) made Done f) where
  abbrev c : Course
  c = Gate doubtful

  abbrev l : Layout
  l = banks_of m

  abbrev o : Op
  o = op m entry s listed kept count doubtful made f

  stepped : IsStep o s.fls.flash Done f.flash
  stepped = step m entry s listed kept count doubtful made f Done is

  asks : IsAsked o s.fls.flash Done f.flash
  asks = asked m entry s listed kept count c made Done f is o stepped

  keep : CutsKeep o (device_of m entry s)
  keep = keeps m entry s listed kept count c made Done f is o stepped (memory_of s) (cutting m entry s listed kept count doubtful made f Done is)

  abbrev pub b : BanksState
  b = ended s.banks

  pub b_is : b ≡ after_answer made c Done
  b_is = λ i. after_answer (sym is.makes.1 i) c Done

  abbrev d : Device
  d = device_of m entry s

  abbrev pub t : Parts
  t = operated o Done f b s

  abbrev e : Device
  e = device_of m entry t

  run_then : HasRun (flash_device e)
  run_then = run m entry s listed kept count is.on o Done f is.drives asks keep b s.job s.last s.given (λ n since worn. absurd (not_worn m entry s listed kept count c made Done f is o stepped since worn))

  -- THE BANKS
  target : IsTargetLog s.banks c
  target = (roomy m entry s listed kept count c made Done f is).target

  abbrev was : Log
  was = log m entry s listed kept count doubtful made f

  open' : was.tail ≡ LogOpen
  open' = ap (λ (x : Tail). tail_with x (body_of (work_in s.banks.copies.tail) s.banks.buffer)) target.work

  abbrev next : ℕ
  next = target_after s.banks.banks (stood s.banks)

  next_ok : (next < l.banks) × (next ≡ s.banks.target → ⊥)
  next_ok =
      let ok = target_other s.banks.target s.banks.banks is.on.banks.target is.on.banks.shared.low in
      (subst (λ (n : ℕ). next < n) is.on.sound.made_for.shared ok.0, ok.1)

  abbrev then' : Memory
  then' = record { old = OldBank s.banks.target (next_head (memory_of s).old) was; target = next; phase = Idle; stand = (memory_of s).stand }

  log_path : log_of s.banks.copies (body_of (work_in s.banks.copies.tail) s.content) ≡ was
  log_path =
      let k = s.banks.copies in
      (λ i. record { end = k.end; tail = tail_with (target.work i) (body_of (work_in k.tail) s.content); places = k.places })
      ∙ (λ i. record { end = k.end; tail = tail_with (sym target.work i) (body_of (work_in k.tail) s.banks.buffer); places = k.places })

  memory_is : then' ≡ memory_of t
  memory_is = λ i. record {
    old = OldBank s.banks.target (record { format = new_format; generation = sym (next_is s.banks.active s.banks.log (body_of (work_in s.banks.log.tail) s.content)) i }) (sym log_path i);
    target = next;
    phase = Idle;
    stand = (memory_of s).stand;
  }

  kept_at : (old new : List ℕ) → bytes_now s.fls.flash ≡ Some old → bytes_now f.flash ≡ Some new → IsTrue (tells d) → IsKept l m.numbers old new (memory_of s) (memory_of t) (copied_of (flags_in m s old))
  kept_at old new at_old at_new told =
      let both = left m entry s listed kept count is.on o Done f is.drives asks old new at_old at_new in
      let cop = copied_of (flags_in m s old) in
      let sh = shows m entry s listed kept count c made Done f is o stepped old at_old told in
      subst (λ (x : Memory). IsKept l m.numbers old new (memory_of s) x cop) memory_is
      (gates_end l m.numbers old new (memory_of s) cop was next (standing m entry s listed kept count c made Done f is old cop sh.held) (phase m entry s listed kept count doubtful made f Done is) open'
      (page_leaves m entry s listed kept count doubtful made f Done is old new both.0) (gate_stood m entry s listed kept count doubtful made f Done is old new sh both.0 both.1) next_ok.0 next_ok.1)

  abbrev more : May
  more = may_in m s (bytes_now s.fls.flash)

  more_is : (old : List ℕ) → bytes_now s.fls.flash ≡ Some old → more ≡ copied_of (flags_in m s old)
  more_is old at = ap (may_in m s) at

  behind_then : HoldsBehind e
  behind_then = held_behind m entry s listed kept count is.on o Done f is.drives asks b s.job s.last s.given run_then more
      (λ new at told.
      (let before = before_told s.fls.flash.bytes f.flash.bytes o Done new asks.bytes at in
      subst (λ (x : May). IsHeld l m.numbers new (memory_of t) x) (sym (more_is before.0 before.1)) (kept_at before.0 new before.1 at told).held))

  keeping : KeepsAll (told_of d) (told_of e)
  keeping = kept_is_told d e more (started m entry s listed kept count is.on o Done f is.drives asks keep b s.job s.last s.given run_then)
      (λ old new now. (let told = are_told d e s.operations _ old new refl now in subst (λ (x : May). IsKept l m.numbers old new (memory_of s) (memory_of t) x) (sym (more_is old told.1)) (kept_at old new told.1 told.2 told.0)))

  -- THE ROOM
  was_room : KeepsRoom m.reserve s.banks
  was_room = is.on.sound.room is.on.started (power m entry s listed kept count is.on)

  room_then : KeepsRoom m.reserve b
  room_then = subst (KeepsRoom m.reserve) (sym b_is) (steps_keep_room m.reserve s.banks made c s.fls.flash f.flash Done is.on.banks is.on.log is.idle is.course was_room is.makes (λ off. cc off))

  behind_switch : IsBehindSwitch m.reserve b
  behind_switch = switches_make_room m.reserve s.banks doubtful is.on.banks was_room is.course

  was_at_work : IsAtWork m s
  was_at_work = is.on.sound.works is.on.started

  writes : IfSome s.job (λ j. j.op ≢ Read)
  writes = all_write s.banks s.job is.behind

  numbers : b.log.numbers ≡ m.numbers
  numbers = is.on.banks.numbers ∙ is.on.sound.made_for.numbers

  low : 16 ≤ b.geometry.page
  low = is.on.banks.legal.page_low

  fits_by : (j : FeeJob) → IsJobOf m.numbers j → j.op ≢ Read → fits_in m.reserve b j ≡ true
  fits_by j is' w' = job_fits m.reserve b j low w' (subst (λ (ns : List (DeviceNumber × ℕ)). IsJobOf ns j) (sym numbers) is') behind_switch.room

  fits_urgent : (j : FeeJob) → IsJobOf m.numbers j → j.op ≢ Read → fits_in 0 b j ≡ true
  fits_urgent j is' w' =
      job_fits 0 b j low w' (subst (λ (ns : List (DeviceNumber × ℕ)). IsJobOf ns j) (sym numbers) is')
      (let much = behind_switch.room in omega (arith, much))

  no_switch : (o' : Option FeeJob) → IfSome o' (IsJobOf m.numbers) → IfSome o' (λ j. j.op ≢ Read) → switch_turns m.reserve b o' None ≡ 0
  no_switch None is' w' = refl
  no_switch (Some j) is' w' = ap (λ (x : Bool). if x then left_of (begun_again b (course.Erase 0)) else 0) (no_need m.reserve b j (fits_by j is' w'))

  -- READY
  room_beside : (j : FeeJob) → IsJobOf m.numbers j → j.op ≢ Read → pages_of_op b.geometry.page j.op j.length + m.reserve ≤ free_pages b
  room_beside j is' w' =
      let is'' = subst (λ (ns : List (DeviceNumber × ℕ)). IsJobOf ns j) (sym numbers) is' in
      let k = has_kind j.op w' in
      let has = records_have_room b.geometry.page m.reserve (free_pages b) b.log.numbers (head_with k.0 j.number j.length 0) false low (for_job b.log.numbers j k.0 0 k.1 is'' (omega arith)) behind_switch.room in
      let same = pages_for b.geometry.page j.op j.length is'.length w' is'.fits in
      let le = leb-true (record_pages_of j.length b.geometry.page + m.reserve) (free_pages b) has in
      omega (arith, same, le)

  few_claimed : (j : FeeJob) → claimed b (Some j) ≤ pages_of_op b.geometry.page j.op j.length
  few_claimed j = cond_both (begins_next b j) (pages_of_op b.geometry.page j.op j.length) 0 (λ (n : ℕ). n ≤ pages_of_op b.geometry.page j.op j.length) (λ e. omega arith) (λ e. omega arith)

  much_free : (o' : Option FeeJob) → IfSome o' (IsJobOf m.numbers) → IfSome o' (λ j. j.op ≢ Read) → m.reserve ≤ pages_free b o'
  much_free None is' w' =
      let much = behind_switch.room in
      let goal : m.reserve ≤ free_pages b - 0 = omega (arith, much) in goal
  much_free (Some j) is' w' =
      let beside = room_beside j is' w' in
      let few = few_claimed j in
      let goal : m.reserve ≤ free_pages b - claimed b (Some j) = omega (arith, beside, few) in goal

  ready_on : (told_of d).ready ≤ (told_of e).ready
  ready_on = ready_stays m.reserve (pages_free s.banks s.job) (pages_free b s.job) (nat_le 1 (seal_turns s.banks.course)) (nat_le 1 0) (inr (inr (much_free s.job was_at_work.job writes)))

  some_pages : (p : ℕ) (o' : DeviceOp) (length : ℕ) → o' ≡ Write → 1 ≤ pages_of_op p o' length
  some_pages p Read length same = cc same
  some_pages p Write length same = omega arith
  some_pages p Invalidate length same = cc same
  some_pages p Erase length same = cc same

  idle_then : work_in b.log.tail ≡ None
  idle_then = ap work_in behind_switch.tail

  waits_then : (j : FeeJob) → j.op ≡ Write → is_waiting b j ≡ true
  waits_then j write =
      ap (λ (x : Bool). x && not (is_some (work_in b.log.tail))) (le-leb 1 (pages_of_op b.geometry.page j.op j.length) (some_pages b.geometry.page j.op j.length write))
      ∙ ap (λ (y : Option RecHead). not (is_some y)) idle_then

  begins_by : (u x y : Bool) → u ≡ true → x ≡ true → y ≡ true → true && u && x && y ≡ true
  begins_by true true true a b' c' = refl
  begins_by true true false a b' c' = c'
  begins_by true false y a b' c' = cc b'
  begins_by false x y a b' c' = cc a

  ready_by : (j : FeeJob) → IsJobOf m.numbers j → j.op ≢ Read → IsReady b j
  ready_by j is' w' promised none =
      let urgent = is'.promised promised in
      inl (begins_by j.urgent (is_waiting b j) (fits_in 0 b j) urgent (waits_then j (is'.urgent urgent)) (fits_urgent j is' w'))

  -- THE FIGURES
  abbrev at : Option FeeJob → Stand
  at o' = stand_of s.content o' s.last s.given

  abbrev w : Option FeeJob → OpenWork
  w o' = work_of m.reserve s.banks o'

  abbrev v : Option FeeJob → OpenWork
  v o' = work_of m.reserve b o'

  idle_pages : (p wanted : ℕ) (x : Tail) → work_in x ≡ None → pages_left p wanted x ≡ wanted
  idle_pages p wanted Open none = refl
  idle_pages p wanted (Writes h done) none = cc none
  idle_pages p wanted (Owes h after) none = refl
  idle_pages p wanted Closed none = refl

  pages_was : (o' : Option FeeJob) → (w o').pages ≡ pages_of_job s.banks.geometry.page o'
  pages_was o' = idle_pages s.banks.geometry.page (pages_of_job s.banks.geometry.page o') s.banks.log.tail is.idle

  pages_then : (o' : Option FeeJob) → (v o').pages ≡ pages_of_job s.banks.geometry.page o'
  pages_then o' = idle_pages s.banks.geometry.page (pages_of_job s.banks.geometry.page o') b.log.tail idle_then

  owed_then : (o' : Option FeeJob) → (v o').owed ≡ false
  owed_then o' = ap is_owed behind_switch.tail

  none_before : NoneBegins s.banks s.job
  none_before = each_job (IsBehind s.banks) (λ j. begins_next s.banks j ≡ false) s.job (λ j x. x.1) is.behind

  switch_was : (w s.job).switch ≡ 1
  switch_was = ap (switch_turns m.reserve s.banks s.job) is.course ∙ switch_none m.reserve s.banks s.job c none_before ∙ ap (left_with s.banks) is.course

  falls_by : (o' : Option FeeJob) → IfSome o' (λ j. j.op ≢ Read) → (v o').switch ≡ 0 → (w o').switch ≡ 1 → left_in (at o') (v o') < left_in (at o') (w o')
  falls_by None w' none one = omega (arith, none, one)
  falls_by (Some j) w' none one =
      let a = pages_was (Some j) in
      let b' = pages_then (Some j) in
      let owed = ap turns_owed (owed_then (Some j)) in
      turns_lower (record { number = j.number.0; mark = mark_of j.op (take j.length s.content); urgent = j.urgent }) (w (Some j)) (v (Some j)) (λ none'. w' (no_mark j.op (take j.length s.content) none'))
      (omega (arith, none, one), omega (arith, a, b', owed), inl (omega (arith, none, one)))

  falls : (told_of e).left < (told_of d).left
  falls = falls_by s.job writes (no_switch s.job was_at_work.job writes) switch_was

  -- and a gate that was owed stays in the old bank
  owed_by : (x : Tail) (body : List ℕ) → owes (tail_with x body) ≡ is_owed x
  owed_by Open body = refl
  owed_by (Writes h done) body = refl
  owed_by (Owes h after) body = refl
  owed_by Closed body = refl

  owed_in : (a : Option ActiveBank) (body : List ℕ) → IsActiveOf s.banks a → owes_gate (old_shown a s.banks.log body) ≡ is_owed s.banks.log.tail
  owed_in None body of = sym (ap (λ (x : LogState). is_owed x.tail) of)
  owed_in (Some a) body of = owed_by s.banks.log.tail body

  owes_is : owes_gate (memory_of s).old ≡ is_owed s.banks.log.tail
  owes_is = owed_in s.banks.active (body_of (work_in s.banks.log.tail) s.content) was_at_work.active

  gates_by : (o' : Option FeeJob) → (if is_open (at o') && is_sealing (memory_of s).phase && true && owes_gate (memory_of s).old then 1 else 0) ≡ (if is_some o' then turns_owed (w o').owed else 0)
  gates_by None = refl
  gates_by (Some j) = λ i. if is_sealing (phase_shown (is.course i) s.banks (body_of (work_in s.banks.copies.tail) s.banks.buffer)) && true && owes_is i then 1 else 0

  takes_by : (o' : Option FeeJob) → IfSome o' (λ j. j.op ≢ Read) → (v o').switch ≡ 0 → (w o').switch ≡ 1 → left_in (at o') (w o') ≡ left_in (at o') (v o') + 1 + (if is_some o' then turns_owed (w o').owed else 0)
  takes_by None w' none one = omega (arith, none, one)
  takes_by (Some j) w' none one =
      let a = pages_was (Some j) in
      let b' = pages_then (Some j) in
      let owed = ap turns_owed (owed_then (Some j)) in
      ends_by (mark_of j.op (take j.length s.content)) (w (Some j)) (v (Some j)) (λ none'. w' (no_mark j.op (take j.length s.content) none')) (omega (arith, a, b', owed, none, one))

  turn_taken : TakesTurn turn.Worked d e
  turn_taken =
      let taken = takes_by s.job writes (no_switch s.job was_at_work.job writes) switch_was in
      inr (inr (taken ∙ ap (λ (n : ℕ). (told_of e).left + 1 + n) (sym (gates_by s.job))))

  geo : b.geometry ≡ m.geometry
  geo = is.on.sound.made_for.banks_geometry

  work_then : IsWork m.geometry.page (sectors_of_bank m.geometry m.banks) m.numbers m.reserve (at s.job) (v s.job)
  work_then =
      let none = no_switch s.job was_at_work.job writes in
      let pages = pages_then s.job in
      record {
        job = job_part m.geometry.page m.numbers s.content s.job s.last s.given (v s.job) was_at_work.job (subst (λ (g : Geometry). (v s.job).pages ≤ pages_of_job g.page s.job) geo (omega (arith, pages)));
        few = omega (arith, none);
      }

  at_work_then : IsAtWork m t
  at_work_then = idle_at_work m t idle_then behind_switch.format was_at_work.job (both_jobs (IsJobOf m.numbers) (λ j. j.op ≢ Read) (IsReady b) s.job ready_by was_at_work.job writes) behind_switch.clear

  facts : Facts m entry s listed kept count is.on o Done f is.drives asks b s.job s.last s.given
  facts = record {
    ends = record { same = record { geometry = refl; banks = refl; numbers = is.on.banks.numbers }; ended = is.on.sound.made_for.ended; given_few = is.on.sound.made_for.given };
    run = run_then;
    behind = behind_then;
    work = work_then;
    at_work = at_work_then;
    shut = λ since worn. refl;
    seals = λ sealed. (let none = step_seals m entry s listed kept count c made Done f is sealed in cc none);
    room = λ on. room_then;
    copies = λ on told. each_now f.flash.bytes (λ (x : List ℕ). Unit {0}) (λ new is'. tt);
  }

  -- THE TURN
  near_by : (j : FeeJob) → IsReady s.banks j → begins_next s.banks j ≡ false → j.urgent ≡ true → (x : ℕ) → wait_of (waits_of s.banks (Some j)) ≡ Some x → (y : ℕ) × (wait_of (waits_of b (Some j)) ≡ Some y) × (y < x)
  near_by j was' none urgent x wait = by_promise j.promised refl
    where
      by_promise : (p : Bool) → j.promised ≡ p → (y : ℕ) × (wait_of (waits_of b (Some j)) ≡ Some y) × (y < x)
      by_promise true e' =
          let one : (waits_of s.banks (Some j)).before ≡ 1 = ap (λ (o' : Option Course). turns_before s.banks.log.tail (seal_turns o')) is.course ∙ before_by s.banks.log.tail 1 (omega arith) in
          let two : (waits_of b (Some j)).before ≡ 0 = ap (λ (x' : Tail). turns_before x' 0) behind_switch.tail ∙ ap (λ (y : Bool). if y then 0 else 0) (not_sealed 0 (λ some. omega arith)) in
          let a = pages_was (Some j) in
          let b' = pages_then (Some j) in
          urgent_nears (waits_of s.banks (Some j)) (waits_of b (Some j)) x urgent urgent refl (omega (arith, one, two, a, b')) wait
      by_promise false e' = (let z : wait_of (waits_of s.banks (Some j)) ≡ None = (λ i. if urgent i then (if e' i then Some ((waits_of s.banks (Some j)).before + (waits_of s.banks (Some j)).pages) else None) else Some (waits_of s.banks (Some j)).before) in absurd (let y = sym z ∙ wait in cc y))

  urgent_by : (o' : Option FeeJob) → IfSome o' (IsReady s.banks) → IfSome o' (λ j. begins_next s.banks j ≡ false) → urgent_first (fixed_in m) (at o') ≡ true
      → (x : ℕ) → wait_of (waits_of s.banks o') ≡ Some x → ((y : ℕ) × (wait_of (waits_of b o') ≡ Some y) × (y < x)) × ((given : List ℕ) → at o' ≢ Ended JobFailed given)
  urgent_by None was' none urgent x wait = cc urgent
  urgent_by (Some j) was' none urgent x wait =
      let j' : Job = record { number = j.number.0; mark = mark_of j.op (take j.length s.content); urgent = j.urgent } in
      (near_by j was' none (sym (urgent_is m j') ∙ urgent) x wait, λ given same. cc same)

  readies : TurnsReady (told_of d) (told_of e)
  readies calm = if_else (urgent_first (fixed_in m) (at s.job)) (Nearer (told_of d) (told_of e)) ((told_of d).ready ≤ (told_of e).ready)
      (λ urgent x wait. (let near = urgent_by s.job was_at_work.ready none_before urgent x wait in (ready_on, near.0, near.1)))
      (λ calm'. ready_on)

  ended_now : Turned m entry turn.Worked s t listed kept (next_count count) false
  ended_now = worked m entry s listed kept count is.on o Done f is.drives asks b s.job s.last s.given keep (λ off. cc off) refl asks.cause.2 facts (record {
    something = switch_is_open m entry s c is.on.started is.course;
    no_read = no_read s.content s.job s.last s.given writes;
    job_turns = turns_keep s.content s.job s.last s.given (told_of d) (told_of e) (clock_of e) keeping falls;
    nearer = inl falls;
    ready = readies;
    takes = step_takes m entry s listed kept count c made Done f is;
    turn_taken = turn_taken;
  })

  pub gate_done : StepTurned Done m entry s listed kept count c made f
  gate_done = subst (λ (x : BanksState). Turned m entry turn.Worked s (operated (step_op s.banks c) Done f x s) listed kept (next_count count) false) b_is ended_now
