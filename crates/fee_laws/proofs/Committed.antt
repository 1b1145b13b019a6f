-- The turn in which a record is committed.
use Rattle.std.specs.Prelude.{IfSome, IsTrue, is_some, nat_le, take, length, slice_get, if◌then◌else◌}
use Rattle.std.proofs.Common.{◌≡◌, ◌≢◌, inl, ◌≤◌, ◌<◌, ◌+◌, ◌-◌, ℕ, Bool, true, false, List, [], set, Option, Some, None, refl, sym, ap, ◌∙◌, subst, arith}
use Rattle.std.proofs.lemmas.Bool.{eqb-true}
use Rattle.nv_base.specs.Count.{next_count}
use Rattle.nv_base.specs.Geometry.{sectors_of_bank}
use Rattle.nv_base.specs.declared.geometry.Geometry.{Geometry}
use Rattle.nv_base.specs.declared.instance.DeviceNumber.{DeviceNumber}
use Rattle.nv_base.specs.declared.job.DeviceOp.{DeviceOp}
use Rattle.nv_base.specs.declared.job.DeviceOp.TheVariants.{Write}
use Rattle.nv_base.specs.declared.mark.Mark.{Mark}
use Rattle.nv_base.specs.Lengths.{place_of}
use Rattle.nv_base.proofs.Places.{numbers_have_places}
use Rattle.memif.specs.declared.answer.DeviceTurn.TheVariants as turn
use Rattle.memif.specs.declared.answer.JobResult.TheVariants.{JobOk}
use Rattle.memif.specs.Told.{First, Held, Job, Stand, Open, Ended, at_number, held_next, more_writes, never_written, length_of}
use Rattle.memif.specs.Marks.{Settles}
use Rattle.memif.specs.Calls.{JobTurns, EndsAs, Nearer, TurnsReady, urgent_first}
use Rattle.fls_model.specs.declared.flash.FlashAnswer.TheVariants.{Done}
use Rattle.fls_model.specs.Told.{Told, bytes_now}
use Rattle.fls_jobs.specs.State.{FlsState}
use Rattle.fee_format.specs.declared.rec_head.RecHead.{RecHead}
use Rattle.fee_format.specs.declared.rec_head.RecordKind.TheVariants as kind
use Rattle.fee_image.specs.Found.{fits}
use Rattle.fee_image.specs.Image.{Layout, bank_in}
use Rattle.fee_image.specs.RecordList.{pages_of_head}
use Rattle.fee_image.proofs.Copies.{settling_widens}
use Rattle.fee_switch_laws.specs.fee_log.declared.tail.Tail.{Tail}
use Rattle.fee_switch_laws.specs.fee_log.declared.tail.Tail.TheVariants.{Open as TailOpen, Writes, Owes, Closed}
use Rattle.fee_switch_laws.specs.fee_log.Index.{with_flag}
use Rattle.fee_switch_laws.specs.fee_log.Log.{LogState, tail_with, work_in}
use Rattle.fee_switch_laws.specs.fee_log.Step.{after_step, commits}
use Rattle.fee_image.specs.Log.{Log, Writes as LogWrites}
use Rattle.fee_image.specs.declared.place.Place.{Place}
use Rattle.fee_image.specs.May.{May, IsWider, held_written}
use Rattle.fee_image.specs.Places.{noted}
use Rattle.fee_image.specs.Step.{log_done, is_last}
use Rattle.fee_image.specs.Banks.{Old}
use Rattle.fee_image.specs.Copies.{Flag, copied_of, cleared, settled_at}
use Rattle.fee_image.specs.Doubts.{shown_of}
use Rattle.fee_image.specs.BankLaws.{TakesAppends}
use Rattle.fee_switch_laws.proofs.Within.{within_length}
use Rattle.fee_course.specs.declared.course.Copying.{Copying}
use Rattle.fee_course.specs.declared.course.Course.{Course}
use Rattle.fee_course.specs.declared.course.Course.TheVariants as course
use Rattle.fee_course.specs.Course.{appended_to, turns_left as switch_turns_left}
use Rattle.fee_course.proofs.Appends.{appends_end}
use Rattle.fee_switch_laws.specs.fee_switch.Banks.{BanksState, TakesRecord, appended_at, index_of, left_of, left_with}
use Rattle.fee_switch_laws.specs.KeepsRoom.{IsRoomy}
use Rattle.fee_switch_laws.specs.Space.{free_pages}
use Rattle.fee_switch_laws.proofs.Appends.{takes}
use Rattle.fee_switch_laws.proofs.RoomPages.{flag_at}
use Rattle.promise_device.specs.Making.{Making}
use Rattle.fee_told.specs.Slots.{Memory, settled_in, job_leaves, writes_of}
use Rattle.fee_told.specs.SlotLaws.{IsHeld}
use Rattle.fee_told.specs.Device.{Device, told_of, clock_of}
use Rattle.fee_told.specs.Appends.{IsCommitted}
use Rattle.fee_told.specs.Figures.{OpenWork, Waits, turns_owed, left_of as turns_left, ready_of, wait_of}
use Rattle.fee_told.proofs.Appends.{appends_commit as told_appends_commit}
use Rattle.fee_told.proofs.Kept.{copies_widen}
use Rattle.fee_told.proofs.Whole.{commits_are_told, told_behind}
use Rattle.fee_told.proofs.ToldBytes.{before_told, now_at}
use Rattle.fee_laws.specs.declared.job.FeeJob.{FeeJob}
use Rattle.fee_laws.specs.Copied.{flags_of, IsCopying}
use Rattle.fee_laws.specs.Inside.{Parts, device_of, memory_of, body_of, flags_in, mark_of, stand_of, fixed_in, HoldsBehind, ShowsCopies, TellsCopies}
use Rattle.fee_laws.specs.Record.{IsInWork, IsLengthOf}
use Rattle.fee_laws.specs.Work.{work_of, switch_turns, pages_of_job, pages_left, is_owed, waits_of, turns_before, seal_turns, is_urgent_job, pages_free}
use Rattle.fee_laws.specs.Turn.{Turned, ended_as}
use Rattle.fee_laws.specs.Appends.{IsAppending, work_op, after_page, AppendsCommit}
use Rattle.fee_laws.proofs.Before.{power, log_geometry, copied, held_before, copies_before, each_now}
use Rattle.fee_laws.proofs.Beside.{content_beside, flags_set, named}
use Rattle.fee_laws.proofs.Noted.{noted_set}
use Rattle.fee_laws.proofs.Settled.{flags_settled, notes, settles_one, settled_count, settled_many, noted_many, settles_in, sets_none}
use Rattle.fee_laws.proofs.Order.{urgent_is}
use Rattle.fee_laws.proofs.Operation.{left, started, are_told}
use Rattle.fee_laws.proofs.Behind.{Facts, held_behind}
use Rattle.fee_laws.proofs.Taken.{takes_one}
use Rattle.fee_laws.proofs.Turning.{worked}
use Rattle.fee_laws.proofs.Tails.{tailed, shown, page_commits, free_on}
use Rattle.fee_laws.proofs.Figures.{free_is, switch_is}
use Rattle.fee_laws.proofs.Heads.{head_fits}
use Rattle.fee_laws.proofs.Page.{in_work, h, work_is, a, old_is, body, log, appending, stands}
use Rattle.fee_laws.proofs.Shown.{after_is, counted, j, open_is, mark as its_mark, head_is, kind_is, job_of, content_fits, something, no_read}
use Rattle.fee_laws.proofs.GoneOn.{if_else, no_seal}
use Rattle.fee_laws.proofs.Left.{l, asked, keeps, run_on, facts_ended}
use Rattle.fee_laws.proofs.PageTraits.{record_takes}

-- a record is committed by its last page alone
pub record Last (log : LogState) : Type 0 where
  pub head : RecHead
  pub done : ℕ
  pub tail : log.tail ≡ Writes head done
  pub is : is_last log.geometry.page head done ≡ true

last_by : (log : LogState) (t : Tail) → log.tail ≡ t → commits log.geometry.page t ≡ true → Last log
last_by log TailOpen e last = absurd (cc last)
last_by log (Writes r done) e last = record { head = r; done = done; tail = e; is = last }
last_by log (Owes r next) e last = absurd (cc last)
last_by log Closed e last = absurd (cc last)

-- with no job the turns of the switch alone are left
left_alone : (b : BanksState) (reserve : ℕ) (c : Option Course) → b.course ≡ c → switch_turns reserve b None c ≡ left_of b
left_alone b reserve None at = sym (ap (left_with b) at)
left_alone b reserve (Some c) at = refl

less_none : (n : ℕ) → n - 0 ≡ n
less_none n = omega arith

-- what an urgent write waits for is its own pages and those turns before
wait_by : (u p : Bool) (before pages v : ℕ) → u ≡ true → (if u then (if p then Some (before + pages) else None) else Some before) ≡ Some v → before + pages ≡ v
wait_by true true before pages v urgent wait = cc wait
wait_by true false before pages v urgent wait = cc wait
wait_by false p before pages v urgent wait = cc urgent

wait_is : (w : Waits) (v : ℕ) → w.urgent ≡ true → wait_of w ≡ Some v → w.before + w.pages ≡ v
wait_is w v urgent wait = wait_by w.urgent w.promised w.before w.pages v urgent wait

module _ (m : Making) (entry : Told) (s : Parts) (listed : List (DeviceNumber × ℕ)) (kept count : ℕ) (f : FlsState) (is : IsAppending m entry s listed kept count Done f) (last : commits s.banks.geometry.page s.banks.log.tail ≡ true) where
  abbrev b : BanksState
  b = record s.banks { log = after_step s.banks.log Done }

  abbrev t : Parts
  t = ended_as JobOk (after_page Done f s)

  abbrev d : Device
  d = device_of m entry s

  abbrev e : Device
  e = device_of m entry t

  abbrev layout : Layout
  layout = l m entry s listed kept count Done f is

  abbrev was : Log
  was = log m entry s listed kept count is.on is.work

  abbrev r : RecHead
  r = h m entry s listed kept count is.on is.work

  abbrev content : List ℕ
  content = body m entry s listed kept count is.on is.work

  at_last : Last s.banks.log
  at_last = last_by s.banks.log s.banks.log.tail refl (ap (λ (g : Geometry). commits g.page s.banks.log.tail) is.on.banks.log.shape ∙ last)

  head_same : r ≡ at_last.head
  head_same = let one = work_is m entry s listed kept count is.on is.work in let two = ap work_in at_last.tail in cc (one, two)

  -- behind it the log is open
  tail_open : b.log.tail ≡ TailOpen
  tail_open = subst (λ (x : Tail). (after_step (tailed s.banks.log x) Done).tail ≡ TailOpen) (sym at_last.tail) (page_commits s.banks.log at_last.head at_last.done s.content at_last.is).tail

  shown_is : shown b.log s.content ≡ log_done layout.page m.numbers was
  shown_is =
      subst (λ (x : Tail). shown (after_step (tailed s.banks.log x) Done) s.content ≡ log_done s.banks.log.geometry.page s.banks.log.numbers (shown (tailed s.banks.log x) s.content)) (sym at_last.tail) (page_commits s.banks.log at_last.head at_last.done s.content at_last.is).shown_as
      ∙ (λ i. log_done (log_geometry m entry s listed kept count is.on i).page (is.on.sound.made_for.numbers i) was)

  -- THE JOB
  abbrev jb : FeeJob
  jb = j m entry s listed kept count is.on is.work

  job_at : s.job ≡ Some jb
  job_at = open_is m entry s listed kept count is.on is.work

  abbrev size : ℕ
  size = (job_of m entry s listed kept count is.on is.work).length

  configured : length_of m.numbers r.number.0 ≡ Some size
  configured = ap (λ (x : RecHead). length_of m.numbers x.number.0) (head_is m entry s listed kept count is.on is.work) ∙ (job_of m entry s listed kept count is.on is.work).configured

  fits_it : IsTrue (fits r.number.0 size r)
  fits_it = subst (λ (x : RecHead). IsTrue (fits x.number.0 size x)) (sym (head_is m entry s listed kept count is.on is.work)) (head_fits jb.op r.kind jb.number jb.length size r.count (kind_is m entry s listed kept count is.on is.work) (job_of m entry s listed kept count is.on is.work).fits)

  was_tail : was.tail ≡ LogWrites r content at_last.done
  was_tail = ap (λ (x : Tail). tail_with x content) at_last.tail ∙ ap (λ (x : RecHead). LogWrites x content at_last.done) (sym head_same)

  last_log : is_last layout.page r at_last.done ≡ true
  last_log = (λ i. is_last (sym (log_geometry m entry s listed kept count is.on) i).page (head_same i) at_last.done) ∙ at_last.is

  committed : (old new : List ℕ) → bytes_now s.fls.flash ≡ Some old → bytes_now f.flash ≡ Some new → (more : May) → IsHeld layout m.numbers old (memory_of s) more
      → IsCommitted layout m.numbers old new (memory_of s) (memory_of t) more r content
  committed old new at_old at_new more held =
      let both = left m entry s listed kept count is.on (work_op s) Done f is.drives (asked m entry s listed kept count Done f is) old new at_old at_new in
      subst (λ (x : Memory). IsCommitted layout m.numbers old new (memory_of s) x more r content)
      (sym (after_is m entry s listed kept count is.on is.work b.log (log_done layout.page m.numbers was) (Ended JobOk []) shown_is))
      (told_appends_commit layout m.numbers old new (memory_of s) more (a m entry s listed kept count is.on is.work).bank (a m entry s listed kept count is.on is.work).head was r content at_last.done size (Ended JobOk [])
      (appending m entry s listed kept count is.on is.work is.page.size old more held new both.0)
      (stands m entry s listed kept count is.on is.work is.page.size (content_fits m entry s listed kept count is.on is.work) is.page old more held new both.1)
      was_tail last_log configured fits_it refl)

  abbrev more : May
  more = copied m entry s listed kept count is.on

  behind : HoldsBehind e
  behind = held_behind m entry s listed kept count is.on (work_op s) Done f is.drives (asked m entry s listed kept count Done f is) b None JobOk 0 (run_on m entry s listed kept count Done f is None JobOk 0) more
      (λ new at told'.
      (let before = before_told s.fls.flash.bytes f.flash.bytes (work_op s) Done new (asked m entry s listed kept count Done f is).bytes at in
      (committed before.0 new before.1 at more (held_before m entry s listed kept count is.on before.0 before.1 told')).held))

  settles : Settles r.number.0 (held_written r content).mark (told_of d) (told_of e)
  settles = commits_are_told d e more r content (started m entry s listed kept count is.on (work_op s) Done f is.drives (asked m entry s listed kept count Done f is) (keeps m entry s listed kept count Done f is) b None JobOk 0 (run_on m entry s listed kept count Done f is None JobOk 0))
      (λ old new now. (let at = are_told d e s.operations _ old new refl now in committed old new at.1 at.2 more (held_before m entry s listed kept count is.on old at.1 at.0)))

  -- BESIDE A SWITCH
  abbrev ns : List (DeviceNumber × ℕ)
  ns = s.banks.log.numbers

  abbrev number : ℕ
  number = r.number.0

  abbrev settled : Held
  settled = held_written r content

  abbrev its : IsInWork s.banks s.job r
  its = in_work m entry s listed kept count is.on is.work

  -- its record has a content then
  is_write : (c : Course) → s.banks.course ≡ Some c → jb.op ≡ Write
  is_write c at = (job_of m entry s listed kept count is.on is.work).urgent (its.beside (ap (λ (o : Option Course). is_some o) at))

  of_kind : (c : Course) → s.banks.course ≡ Some c → r.kind ≡ kind.Content
  of_kind c at = content_beside r.kind c (subst (TakesRecord r.kind) at its.taken)

  size_is : (c : Course) → s.banks.course ≡ Some c → r.length ≡ size
  size_is c at = ap (λ (x : RecHead). x.length) (head_is m entry s listed kept count is.on is.work) ∙ subst (λ (o : DeviceOp). IsLengthOf o jb.length size) (is_write c at) (job_of m entry s listed kept count is.on is.work).fits

  -- where its number stands
  length_in : length_of ns number ≡ Some size
  length_in = subst (λ (x : List (DeviceNumber × ℕ)). length_of x number ≡ Some size) (sym is.on.sound.made_for.numbers) configured

  stands_at : (i : ℕ) × (slice_get ns i ≡ Some (record { 0 = number }, size))
  stands_at = named ns number size length_in

  place_is : place_of ns number ≡ Some stands_at.0
  place_is = numbers_have_places 0 ns stands_at.0 (record { 0 = number }, size) is.on.log.numbers stands_at.1

  places_then : b.log.places ≡ noted ns s.banks.log.places s.banks.log.end r
  places_then =
      subst (λ (x : Tail). (after_step (tailed s.banks.log x) Done).places ≡ noted ns s.banks.log.places s.banks.log.end at_last.head) (sym at_last.tail) (page_commits s.banks.log at_last.head at_last.done s.content at_last.is).places
      ∙ ap (noted ns s.banks.log.places s.banks.log.end) (sym head_same)

  places_many_are : length s.banks.log.places ≡ length ns
  places_many_are = within_length s.banks.log.geometry.page s.banks.log.end ns s.banks.log.places is.on.log.places

  -- the switch has as many turns left
  abbrev turns : List Place → Option ℕ → Course → ℕ
  turns places appended c = switch_turns_left s.banks.geometry.page (sectors_of_bank s.banks.geometry s.banks.banks) ns places s.banks.log.flags appended c

  clear_at : set s.banks.log.flags stands_at.0 false ≡ s.banks.log.flags
  clear_at = sym (flag_at 0 ns s.banks.log.flags stands_at.0 (record { 0 = number }, size) false is.on.log.numbers stands_at.1) ∙ its.clear

  -- a copy in work sets no flag of its number
  alone_at : (c : Course) → s.banks.course ≡ Some c → appended_to stands_at.0 c ≡ c
  alone_at c at = same_course ((λ i. appended_at (sym place_is i) (sym at i)) ∙ its.alone ∙ at)
    where
      same_course : Some (appended_to stands_at.0 c) ≡ Some c → appended_to stands_at.0 c ≡ c
      same_course same = cc same

  same_left_by : (c : Option Course) → s.banks.course ≡ c → left_with b c ≡ left_with s.banks c
  same_left_by None at = refl
  same_left_by (Some c) at =
      let places = places_then ∙ noted_set 0 ns s.banks.log.places s.banks.log.end r stands_at.0 size is.on.log.numbers places_many_are place_is length_in (of_kind c at) (size_is c at) in
      let index : index_of ns (work_in s.banks.log.tail) ≡ Some stands_at.0 = ap (index_of ns) (work_is m entry s listed kept count is.on is.work) ∙ place_is in
      (λ i. turns (places i) (index_of ns (work_in (tail_open i))) c)
      ∙ appends_end s.banks.geometry.page (sectors_of_bank s.banks.geometry s.banks.banks) stands_at.0 s.banks.log.end r.count ns s.banks.log.places s.banks.log.flags c clear_at (alone_at c at)
      ∙ (λ i. turns s.banks.log.places (sym index i) c)

  same_left : left_of b ≡ left_of s.banks
  same_left = same_left_by s.banks.course refl

  places_here : b.log.places ≡ noted m.numbers s.banks.log.places s.banks.log.end r
  places_here = places_then ∙ ap (λ (x : List (DeviceNumber × ℕ)). noted x s.banks.log.places s.banks.log.end r) is.on.sound.made_for.numbers

  -- what it settles counts one more than what was settled
  next_is : (old : List ℕ) → held_next settled.mark (at_number never_written m.numbers (settled_in layout m.numbers old (memory_of s).old) number) ≡ settled
  next_is old =
      let here = a m entry s listed kept count is.on is.work in
      let count_is : (at_number never_written m.numbers (settled_in layout m.numbers old (memory_of s).old) number).count ≡ writes_of m.numbers s.banks.log.places number =
      ap (λ (o : Old). (at_number never_written m.numbers (settled_in layout m.numbers old o) number).count) (old_is m entry s listed kept count is.on is.work)
      ∙ settled_count (bank_in layout here.head.format here.bank) old m.numbers s.banks.log.places number size configured in
      λ i. record { mark = settled.mark; count = (ap (more_writes 1) count_is ∙ sym (counted m entry s listed kept count is.on is.work)) i }

  -- its number's mark is settled, and no other
  flags_are : (old new : List ℕ) (showing : May) → IsCommitted layout m.numbers old new (memory_of s) (memory_of t) showing r content → flags_in m t new ≡ settled_at number settled (flags_in m s old)
  flags_are old new showing done_so =
      let many : length s.banks.log.places ≡ length m.numbers = places_many_are ∙ ap (λ (x : List (DeviceNumber × ℕ)). length x) is.on.sound.made_for.numbers in
      let many_then : length b.log.places ≡ length m.numbers = ap (λ (x : List Place). length x) places_then ∙ noted_many ns s.banks.log.places s.banks.log.end r ∙ many in
      let next = (settled_in layout m.numbers new (memory_of t).old) in
      (λ i. flags_of m.numbers (places_here i) s.banks.log.flags next)
      ∙ flags_settled 0 r s.banks.log.end settled m.numbers s.banks.log.places s.banks.log.flags (settled_in layout m.numbers old (memory_of s).old) next is.on.sound.made_for.space.lengths
      (notes 0 r size m.numbers is.on.sound.made_for.space.lengths configured fits_it)
      (settled_many layout m.numbers old s.banks.active s.banks.log (body_of (work_in s.banks.log.tail) s.content) many)
      (settled_many layout m.numbers new s.banks.active b.log (body_of (work_in b.log.tail) s.content) many_then)
      (settles_one number settled.mark settled (shown_of layout old (memory_of s).old) (shown_of layout new (memory_of t).old) (job_leaves (memory_of s).stand) (job_leaves (memory_of t).stand) m.numbers
      (settled_in layout m.numbers old (memory_of s).old) next (next_is old) done_so.settles)

  clear_is : (old : List ℕ) → cleared number (flags_in m s old) ≡ flags_in m s old
  clear_is old =
      sym (flags_set m.numbers s.banks.log.places s.banks.log.flags (settled_in layout m.numbers old (memory_of s).old) number false)
      ∙ ap (λ (x : List Bool). flags_of m.numbers s.banks.log.places x (settled_in layout m.numbers old (memory_of s).old)) (ap (λ (x : List (DeviceNumber × ℕ)). with_flag x s.banks.log.flags number false) (sym is.on.sound.made_for.numbers) ∙ its.clear)

  wide_is : (c : Course) → s.banks.course ≡ Some c → (old : List ℕ) → IsWider (copied_of (flags_in m s old)) (copied_of (settled_at number settled (flags_in m s old)))
  wide_is c at old =
      subst (λ (x : List Flag). IsWider (copied_of x) (copied_of (settled_at number settled x))) (clear_is old)
      (settling_widens (flags_in m s old) number settled)

  -- a copy that sets a flag is of another number
  differs : (w : Copying) → s.banks.course ≡ Some (course.Copy (Some w)) → w.sets ≡ true → IfSome (work_in s.banks.copies.tail) (λ x. x.number.0 ≢ number)
  differs w at sets =
      let roomy = subst (λ (o : Option Course). IfSome o (IsRoomy m.reserve s.banks)) at (is.on.sound.room is.on.started (power m entry s listed kept count is.on)).switch in
      let here = roomy.target.work in
      let there = numbers_have_places 0 ns w.index (here.head.number, here.length) is.on.log.numbers here.named in
      subst (λ (o : Option RecHead). IfSome o (λ x. x.number.0 ≢ number)) (sym (ap work_in here.tail))
      (λ same.
      (let its_place : place_of ns number ≡ Some w.index = subst (λ (n : ℕ). place_of ns n ≡ Some w.index) same there in
      let none = sets_none w ((λ i. appended_at (sym its_place i) (sym at i)) ∙ its.alone ∙ at) in
      cc (sets, none)))

  copying_by : (c : Course) → s.banks.course ≡ Some c → (fs : List Flag) → IsCopying c (work_in s.banks.copies.tail) s.banks.buffer fs → IsCopying c (work_in s.banks.copies.tail) s.banks.buffer (settled_at number settled fs)
  copying_by (course.Erase n) at fs copy = tt
  copying_by (course.Copy None) at fs copy = tt
  copying_by (course.Copy (Some w)) at fs copy = settles_in w.sets (work_in s.banks.copies.tail) s.banks.buffer number settled fs (differs w at) copy
  copying_by course.Head at fs copy = tt
  copying_by (course.Gate failed) at fs copy = tt

  taking_then : TakesAppends (memory_of t).phase
  taking_then = takes r.kind s.banks.course b (body_of (work_in s.banks.copies.tail) s.banks.buffer) its.taken

  shows_by : (old new : List ℕ) → bytes_now s.fls.flash ≡ Some old → bytes_now f.flash ≡ Some new → (c : Option Course) → s.banks.course ≡ c → IfSome c (λ x. ShowsCopies m s x old) → IfSome c (λ x. ShowsCopies m t x new)
  shows_by old new at_old at_new None at shows = tt
  shows_by old new at_old at_new (Some c) at shows =
      let fs = flags_in m s old in
      let done_so = committed old new at_old at_new (copied_of fs) shows.held in
      let same = flags_are old new (copied_of fs) done_so in
      record {
        held = subst (λ (x : List Flag). IsHeld layout m.numbers new (memory_of t) (copied_of x)) (sym same)
            (copies_widen layout m.numbers new (memory_of t) (copied_of fs) (copied_of (settled_at number settled fs)) done_so.held (wide_is c at old) taking_then);
        copy = subst (λ (x : List Flag). IsCopying c (work_in s.banks.copies.tail) s.banks.buffer x) (sym same) (copying_by c at fs shows.copy);
      }

  copies : TellsCopies m entry t
  copies on now = (let told' = told_behind e s.operations _ refl now in each_now f.flash.bytes (λ (x : List ℕ). IfSome s.banks.course (λ c. ShowsCopies m t c x)) (λ new at.
      (let before = before_told s.fls.flash.bytes f.flash.bytes (work_op s) Done new (asked m entry s listed kept count Done f is).bytes at in
      shows_by before.0 new before.1 at s.banks.course refl (now_at s.fls.flash.bytes (λ (x : List ℕ). IfSome s.banks.course (λ c. ShowsCopies m s c x)) before.0 before.1 (copies_before m entry s listed kept count is.on told')))))

  -- THE PARTS
  switch_then : switch_turns m.reserve b None b.course ≡ left_of b
  switch_then = left_alone b m.reserve b.course refl

  facts : Facts m entry s listed kept count is.on (work_op s) Done f is.drives (asked m entry s listed kept count Done f is) b None JobOk 0
  facts = facts_ended m entry s listed kept count Done f is JobOk (λ same. cc) (ap work_in tail_open) refl refl refl behind copies

  -- THE TURN
  abbrev at : Option FeeJob → Stand
  at o = stand_of s.content o s.last s.given

  abbrev asks : Job
  asks = record { number = jb.number.0; mark = mark_of jb.op (take jb.length s.content); urgent = jb.urgent }

  mark_at : asks.mark ≡ Some (held_written r content).mark
  mark_at = its_mark m entry s listed kept count is.on is.work

  ends : EndsAs asks.mark asks.number JobOk [] (told_of d) (told_of e)
  ends = subst (λ (o : Option Mark). EndsAs o asks.number JobOk [] (told_of d) (told_of e)) (sym mark_at)
      (subst (λ (n : ℕ). Settles n (held_written r content).mark (told_of d) (told_of e)) (ap (λ (x : RecHead). x.number.0) (head_is m entry s listed kept count is.on is.work)) settles, refl)

  abbrev w : OpenWork
  w = work_of m.reserve s.banks s.job

  -- its last page was left
  one_page : w.pages ≡ 1
  one_page =
      let last_is = eqb-true (at_last.done + 1) (pages_of_head s.banks.log.geometry.page at_last.head) at_last.is in
      let last_page = subst (λ (g : Geometry). at_last.done + 1 ≡ pages_of_head g.page at_last.head) is.on.banks.log.shape last_is in
      subst (λ (x : Tail). pages_left s.banks.geometry.page (pages_of_job s.banks.geometry.page s.job) x ≡ 1) (sym at_last.tail) (omega (arith, last_page))

  none_owed : w.owed ≡ false
  none_owed = ap is_owed at_last.tail

  falls_at : (told_of e).left + 1 ≡ (told_of d).left
  falls_at =
      let is_then = switch_then in
      let same = same_left in
      let was_it : w.switch ≡ left_of s.banks = switch_is s.banks is.work m.reserve s.job in
      let one = one_page in
      let owed = ap turns_owed none_owed in
      let open_left : switch_turns m.reserve b None b.course + 1 ≡ turns_left (Open (record asks { mark = Some (held_written r content).mark })) w = omega (arith, is_then, same, was_it, one, owed) in
      subst (λ (o : Option FeeJob). switch_turns m.reserve b None b.course + 1 ≡ turns_left (at o) w) (sym job_at) (subst (λ (o : Option Mark). switch_turns m.reserve b None b.course + 1 ≡ turns_left (Open (record asks { mark = o })) w) (sym mark_at) open_left)

  lower : (told_of e).left < (told_of d).left
  lower = let one = falls_at in omega (arith, one)

  ready_same : (told_of d).ready ≤ (told_of e).ready
  ready_same =
      let free : pages_free b None ≡ pages_free s.banks s.job =
      less_none (free_pages b)
      ∙ ap (λ (n : ℕ). if is_some s.banks.active then n else 0) (free_on s.banks.log s.banks.log.tail is.work)
      ∙ sym (free_is s.banks is.work s.job) in
      let same = ap (ready_of m.reserve (nat_le 1 (seal_turns s.banks.course))) free in
      omega (arith, same)

  abbrev waits : Waits
  waits = waits_of s.banks s.job

  urgent_job : urgent_first (fixed_in m) (at s.job) ≡ true → is_urgent_job s.job ≡ true
  urgent_job = subst (λ (o : Option FeeJob). urgent_first (fixed_in m) (at o) ≡ true → is_urgent_job o ≡ true) (sym job_at) (λ is_urgent. sym (urgent_is m asks) ∙ is_urgent)

  before_none : turns_before b.log.tail (seal_turns s.banks.course) ≡ 0
  before_none = (λ i. turns_before (tail_open i) (no_seal r.kind s.banks.course its.taken i))

  readies : TurnsReady (told_of d) (told_of e)
  readies calm = if_else (urgent_first (fixed_in m) (at s.job)) (Nearer (told_of d) (told_of e)) ((told_of d).ready ≤ (told_of e).ready)
      (λ is_urgent v wait. (
        ready_same,
        (turns_before b.log.tail (seal_turns s.banks.course), refl, (let none = before_none in let one = one_page in let is_v = wait_is waits v (urgent_job is_urgent) wait in omega (arith, none, one, is_v))),
        λ given same. cc,
      ))
      (λ calm'. ready_same)

  pub commits_so : Turned m entry turn.Worked s t listed kept (next_count count) false
  commits_so = worked m entry s listed kept count is.on (work_op s) Done f is.drives (asked m entry s listed kept count Done f is) b None JobOk 0 (keeps m entry s listed kept count Done f is) (λ off. cc off) refl (asked m entry s listed kept count Done f is).cause.2 facts (record {
    something = something m entry s listed kept count is.on is.work;
    no_read = no_read m entry s listed kept count is.on is.work;
    job_turns = subst (λ (o : Option FeeJob). JobTurns First (at o) (Ended JobOk []) (told_of d) (told_of e) (clock_of e)) (sym job_at) (ends, λ failed. cc);
    nearer = inl lower;
    ready = readies;
    takes = record_takes m entry s listed kept count Done f is;
    turn_taken = takes_one m entry s t (λ on. on) falls_at;
  })

pub appends_commit : AppendsCommit
appends_commit m entry s listed kept count f is last = commits_so m entry s listed kept count f is last
