-- What the operations of a device are by themselves, each by the page of its bank that it programs.
use Rattle.std.specs.Prelude.{IsTrue, IfSome, IsSome, ◌&&◌, ◌||◌, ◌==◌, nat_le, slice_get, if◌then◌else◌}
use Rattle.std.proofs.Common.{◌≡◌, ◌<◌, ◌≤◌, ◌+◌, ◌-◌, ℕ, Bool, true, false, List, [], Option, Some, None, refl, sym, ap, ◌∙◌, subst, arith}
use Rattle.std.proofs.lemmas.Bool.{lt-leb}
use Rattle.nv_base.specs.Geometry.{pages_of_bank, address_of_page}
use Rattle.nv_base.specs.declared.geometry.Geometry.{Geometry}
use Rattle.nv_base.specs.declared.instance.DeviceNumber.{DeviceNumber}
use Rattle.memif.specs.Told.{is_urgent}
use Rattle.memif.specs.Clock.{Trait, Seals, TakesKept}
use Rattle.fls_model.specs.declared.flash.FlashAnswer.{FlashAnswer}
use Rattle.fls_model.specs.declared.flash.FlashAnswer.TheVariants.{Off}
use Rattle.fls_model.specs.Op.{Op, Program, Erase as Erases}
use Rattle.fls_model.specs.Step.{programs}
use Rattle.fls_model.specs.Told.{Told}
use Rattle.fls_jobs.specs.State.{FlsState}
use Rattle.fee_format.specs.BankHead.{bank_head_page}
use Rattle.fee_format.specs.Pages.{gate_page}
use Rattle.fee_format.specs.declared.rec_head.RecHead.{RecHead}
use Rattle.fee_image.specs.RecordList.{pages_of_head}
use Rattle.fee_switch_laws.specs.fee_log.declared.tail.Tail.{Tail}
use Rattle.fee_switch_laws.specs.fee_log.declared.tail.Tail.TheVariants.{Open, Writes, Owes, Closed}
use Rattle.fee_switch_laws.specs.fee_log.Log.{LogState, IsLogState, IsTail, work_in, taken_in, free_in, free_behind, pages_in, begun}
use Rattle.fee_switch_laws.specs.fee_log.Step.{due_page, due_bytes, op_of}
use Rattle.fee_course.specs.declared.copies.Source.{Source}
use Rattle.fee_course.specs.declared.course.Copying.{Copying}
use Rattle.fee_course.specs.declared.course.Course.{Course}
use Rattle.fee_course.specs.declared.course.Course.TheVariants.{Erase, Copy, Head, Gate}
use Rattle.fee_course.specs.Copies.{next_copy}
use Rattle.fee_switch_laws.specs.fee_switch.Banks.{BanksState}
use Rattle.fee_switch_laws.specs.fee_switch.Copy.{head_at}
use Rattle.fee_switch_laws.specs.KeepsRoom.{IsRoomy, KeepsRoom, IsOpenCopy}
use Rattle.fee_switch_laws.specs.Space.{free_pages}
use Rattle.fee_switch_laws.proofs.RoomPages.{among_greatest}
use Rattle.promise_device.specs.Making.{Making}
use Rattle.promise_device.specs.Failures.{is_failed}
use Rattle.promise_device.specs.Traits.{page_in_bank, is_done, leaves_seal, is_kept_page, is_such_page, is_such_op, is_such}
use Rattle.fee_told.specs.fls_told.Clock.{TakesKeptPages, change_of}
use Rattle.fee_told.specs.Device.{flash_device}
use Rattle.fee_laws.specs.declared.job.FeeJob.{FeeJob}
use Rattle.fee_laws.specs.Inside.{Parts, device_of, stand_of, IsAtWork}
use Rattle.fee_laws.specs.Record.{IsInWork}
use Rattle.fee_laws.specs.Work.{is_urgent_job}
use Rattle.fee_laws.specs.Appends.{IsAppending, work_body, work_op}
use Rattle.fee_laws.specs.Follows.{target_head}
use Rattle.fee_laws.specs.Switches.{IsStepping, nothing, mark_op_for, mark_op_of, copy_op_of, step_op}
use Rattle.fee_laws.proofs.Before.{legal, power}
use Rattle.fee_laws.proofs.FollowAppends.{due_inside}
use Rattle.fee_laws.proofs.FollowBanks.{some_page}
use Rattle.fee_laws.proofs.FollowLifts.{some_of}
use Rattle.promise_device.proofs.Places.{own_page}
use Rattle.fee_laws.proofs.FollowOperations.{unlike}

-- THE PAGE
such_page : (m : Making) (t : Trait) (g : Geometry) (banks k q : ℕ) (page : List ℕ) (answer : FlashAnswer) → g ≡ m.geometry → banks ≡ m.banks → 0 < g.page → q < pages_of_bank g banks
    → is_such_op m t (programs (address_of_page g banks k q) page) answer ≡ is_such_page m t q answer
such_page m t g banks k q page answer shape shared some inside =
    (λ i. is_such_page m t (page_in_bank (sym shape i) (sym shared i) (address_of_page g banks k q)) answer) ∙ ap (λ (n : ℕ). is_such_page m t n answer) (own_page g banks k q some inside)

-- behind the gate none leaves a switch at its seal
no_seal : (q : ℕ) (answer : FlashAnswer) → 2 ≤ q → leaves_seal q answer ≡ false
no_seal q answer low =
    let first = unlike q 0 (λ same. omega (arith, low, same)) in
    let second = unlike q 1 (λ same. omega (arith, low, same)) in
    rw (first, second) refl

-- and before those that are kept none takes one of these
not_kept : (m : Making) (q : ℕ) → q + m.reserve < pages_of_bank m.geometry m.banks → is_kept_page m q ≡ false
not_kept m q low =
    let pages = pages_of_bank m.geometry m.banks in
    let before : nat_le (pages - m.reserve) q ≡ false = lt-leb (pages - m.reserve) q (omega (arith, low)) in
    ap (λ (b : Bool). b && nat_le (q + 1) pages) before

-- where the power went off in it, it leaves none at its seal
off_seals_by : (first second : Bool) → IsTrue ((first && false) || (second && false)) → ⊥
off_seals_by true true seals = cc seals
off_seals_by true false seals = cc seals
off_seals_by false true seals = cc seals
off_seals_by false false seals = cc seals

pub off_seals : (m : Making) (op : Op) → IsTrue (is_such_op m Seals op Off) → ⊥
off_seals m (Program address page) seals = off_seals_by (page_in_bank m.geometry m.banks address == 0) (page_in_bank m.geometry m.banks address == 1) seals
off_seals m (Erases address n) seals = cc seals

-- A LOG
-- the page that is due lies before the free ones
due_before : (log : LogState) (t : Tail) → IsTail log.geometry.page (pages_in log) log.end t → IsSome (work_in t)
    → due_page (record log { tail = t }) + free_behind log.geometry.page (pages_in log) log.end t < pages_in log
due_before log Open is work = cc work
due_before log (Writes h done) is work = let less = is.1 in let within = is.2 in omega arith
due_before log (Owes owed None) is work = cc work
due_before log (Owes owed (Some h)) is work = let within = is.0 in omega arith
due_before log Closed is work = cc work

-- the program of a log
such_program : (m : Making) (t : Trait) (log : LogState) (body : List ℕ) (answer : FlashAnswer) → log.geometry ≡ m.geometry → log.banks ≡ m.banks → IsLogState log → due_page log < pages_in log
    → is_such_op m t (op_of log body) answer ≡ is_such_page m t (due_page log) answer
such_program m t log body answer shape shared state inside =
    such_page m t log.geometry log.banks log.bank (due_page log) (due_bytes log body) answer shape shared (some_page log.geometry state.geometry) inside

-- THE PAGE OF A RECORD
module _ (m : Making) (entry : Told) (s : Parts) (listed : List (DeviceNumber × ℕ)) (kept count : ℕ) (answer : FlashAnswer) (f : FlsState) (is : IsAppending m entry s listed kept count answer f) where
  abbrev log : LogState
  log = s.banks.log

  shape : log.geometry ≡ m.geometry
  shape = is.on.banks.log.shape ∙ is.on.sound.made_for.banks_geometry

  shared : log.banks ≡ m.banks
  shared = is.on.banks.log.shared ∙ is.on.sound.made_for.shared

  due : (2 ≤ due_page log) × (due_page log < pages_in log)
  due = due_inside log log.tail is.on.log.end_low is.on.log.tail is.work

  such : (t : Trait) → is_such_op m t (work_op s) answer ≡ is_such_page m t (due_page log) answer
  such t = such_program m t log (work_body s) answer shape shared is.on.log due.1

  pub record_seals : IsTrue (is_such m Seals (change_of (work_op s) s.fls.flash answer)) → ⊥
  record_seals seals = (let none : true ≡ false = sym seals ∙ such Seals ∙ no_seal (due_page log) answer due.0 in cc none)

  at_work : IsAtWork m s
  at_work = is.on.sound.works is.on.started

  abbrev h : RecHead
  h = (some_of (work_in log.tail) is.work).0

  in_work : IsInWork s.banks s.job h
  in_work = subst (λ (o : Option RecHead). IfSome o (IsInWork s.banks s.job)) (some_of (work_in log.tail) is.work).1 at_work.work

  -- one that isn't urgent leaves the pages that are kept
  leaves_kept : in_work.of.urgent ≡ false → due_page log + m.reserve < pages_of_bank m.geometry m.banks
  leaves_kept calm =
      let free = at_work.kept is.work (ap is_urgent_job in_work.is_open ∙ calm) in
      let all : free_pages s.banks ≡ free_in log = ap (λ (b : Bool). if b then free_in log else 0) in_work.active in
      let before = due_before log log.tail is.on.log.tail is.work in
      let here : due_page log + m.reserve < pages_in log = omega (arith, free, all, before) in
      subst (λ (n : ℕ). due_page log + m.reserve < n) (λ i. pages_of_bank (shape i) (shared i)) here

  pub record_takes : TakesKeptPages (work_op s) answer (flash_device (device_of m entry s))
  record_takes takes = by in_work.of.urgent refl
    where
      by : (u : Bool) → in_work.of.urgent ≡ u → is_urgent (stand_of s.content s.job s.last s.given) ≡ true
      by true urgent = subst (λ (o : Option FeeJob). is_urgent (stand_of s.content o s.last s.given) ≡ true) (sym in_work.is_open) urgent
      by false calm = (let none : true ≡ false = sym takes ∙ such TakesKept ∙ not_kept m (due_page log) (leaves_kept calm) in cc none)

-- A STEP OF A SWITCH
-- it leaves the switch at its seal: the head that is done, and the gate that is in doubt
abbrev pub seals_by : Course → FlashAnswer → Bool
seals_by Head answer = is_done answer
seals_by (Gate failed) answer = is_failed answer
seals_by _ answer = false

-- behind the target's log no page is taken that is kept
pub record IsPlain (m : Making) (op : Op) (answer : FlashAnswer) : Type 0 where
  pub seals : is_such_op m Seals op answer ≡ false
  pub takes : is_such_op m TakesKept op answer ≡ false

none_plain : (m : Making) (answer : FlashAnswer) → IsPlain m nothing answer
none_plain m answer = record { seals = refl; takes = refl }

plain_program : (m : Making) (log : LogState) (body : List ℕ) (answer : FlashAnswer) → log.geometry ≡ m.geometry → log.banks ≡ m.banks → 0 < log.geometry.page → 2 ≤ due_page log
    → due_page log + m.reserve < pages_of_bank m.geometry m.banks → IsPlain m (op_of log body) answer
plain_program m log body answer shape shared some low few =
    let inside : due_page log < pages_in log = subst (λ (n : ℕ). due_page log < n) (λ i. pages_of_bank (sym shape i) (sym shared i)) (omega (arith, few)) in
    let same : (t : Trait) → is_such_op m t (op_of log body) answer ≡ is_such_page m t (due_page log) answer = λ t.
    such_page m t log.geometry log.banks log.bank (due_page log) (due_bytes log body) answer shape shared some inside in
    record { seals = same Seals ∙ no_seal (due_page log) answer low; takes = same TakesKept ∙ not_kept m (due_page log) few }

or_false : (x : Bool) → IsTrue (x || false) → x ≡ true
or_false true is = refl
or_false false is = is

module _ (m : Making) (entry : Told) (s : Parts) (listed : List (DeviceNumber × ℕ)) (kept count : ℕ) (c : Course) (made : BanksState) (answer : FlashAnswer) (f : FlsState) (is : IsStepping m entry s listed kept count c made answer f) where
  abbrev b : BanksState
  b = s.banks

  geo : b.geometry ≡ m.geometry
  geo = is.on.sound.made_for.banks_geometry

  banks_are : b.banks ≡ m.banks
  banks_are = is.on.sound.made_for.shared

  copies_shape : b.copies.geometry ≡ m.geometry
  copies_shape = is.on.banks.copies.shape ∙ geo

  copies_shared : b.copies.banks ≡ m.banks
  copies_shared = is.on.banks.copies.shared ∙ banks_are

  some : 0 < b.geometry.page
  some = some_page b.geometry is.on.banks.legal

  pages_same : pages_of_bank b.geometry b.banks ≡ pages_of_bank m.geometry m.banks
  pages_same = λ i. pages_of_bank (geo i) (banks_are i)

  keeps : KeepsRoom m.reserve b
  keeps = is.on.sound.room is.on.started (power m entry s listed kept count is.on)

  roomy : (x : Course) → c ≡ x → IsRoomy m.reserve b x
  roomy x same = subst (λ (o : Option Course). IfSome o (IsRoomy m.reserve b)) (is.course ∙ ap (λ (y : Course). Some y) same) keeps.switch

  copies_some : 0 < b.copies.geometry.page
  copies_some = some_page b.copies.geometry is.copies.geometry

  -- a mark's copy begins behind those that are made
  mark_plain : c ≡ Copy None → (o : Option Source) → IsPlain m (mark_op_of b o) answer
  mark_plain same None = none_plain m answer
  mark_plain same (Some source) = by (slice_get b.log.numbers source.index) refl
    where
      by : (x : Option (DeviceNumber × ℕ)) → slice_get b.log.numbers source.index ≡ x → IsPlain m (mark_op_for b.copies source.place x) answer
      by None at = none_plain m answer
      by (Some n) at =
          let r = roomy (Copy None) same in
          let k = begun b.copies (head_at source.place n.0 n.1) in
          let here : due_page k ≡ b.copies.end = ap (λ (t : Tail). due_page (begun (record b.copies { tail = t }) (head_at source.place n.0 n.1))) r.target.work ∙ (let plus : b.copies.end + 0 ≡ b.copies.end = omega arith in plus) in
          let most = among_greatest b.geometry.page b.log.numbers source.index n at in
          let room = r.room in
          let low = is.copies.end_low in
          let all = pages_same in
          plain_program m k [] answer copies_shape copies_shared copies_some (omega (arith, here, low)) (omega (arith, here, room, most, all))

  -- and so does the next page of a copy in work
  copy_plain : (w : Copying) → c ≡ Copy (Some w) → IsPlain m (copy_op_of b (work_in b.copies.tail)) answer
  copy_plain w same =
      let r = roomy (Copy (Some w)) same in
      let here : IsOpenCopy b w = r.target.work in
      let tail = here.tail in
      let work : work_in b.copies.tail ≡ Some here.head = ap work_in tail in
      let is_tail = subst (IsTail b.copies.geometry.page (pages_in b.copies) b.copies.end) tail is.copies.tail in
      let due : due_page b.copies ≡ b.copies.end + here.done = ap (λ (t : Tail). due_page (record b.copies { tail = t })) tail in
      let less = is_tail.1 in
      let taken = ap (λ (t : Tail). b.copies.end + taken_in b.geometry.page t) tail in
      let page = ap (λ (g : Geometry). pages_of_head g.page here.head) is.on.banks.copies.shape in
      let room = r.room in
      let low = is.copies.end_low in
      let all = pages_same in
      subst (λ (o : Option RecHead). IsPlain m (copy_op_of b o) answer) (sym work)
      (plain_program m b.copies _ answer copies_shape copies_shared copies_some (omega (arith, due, low)) (omega (arith, due, less, taken, page, room, all)))

  -- the head and the gate are the first pages
  front : (q : ℕ) → q < 2 → (q + m.reserve < pages_of_bank m.geometry m.banks) × (q < pages_of_bank b.geometry b.banks)
  front q less =
      let two = (legal m entry s listed kept count is.on).pages in
      let space = keeps.space.space in
      let all = pages_same in
      (omega (arith, less, two, space, all), omega (arith, less, two, all))

  such_front : (t : Trait) (q : ℕ) (page : List ℕ) → q < 2 → is_such_op m t (programs (address_of_page b.geometry b.banks b.target q) page) answer ≡ is_such_page m t q answer
  such_front t q page less = such_page m t b.geometry b.banks b.target q page answer geo banks_are some (front q less).1

  seal_at : (x : Course) → c ≡ x → IsTrue (is_such_op m Seals (step_op b x) answer) → seals_by x answer ≡ true
  seal_at (Erase n) same seals = cc seals
  seal_at (Copy None) same seals = (let none : true ≡ false = sym seals ∙ (mark_plain same (next_copy b.log.numbers b.log.places b.log.flags)).seals in cc none)
  seal_at (Copy (Some w)) same seals = (let none : true ≡ false = sym seals ∙ (copy_plain w same).seals in cc none)
  seal_at Head same seals = or_false (is_done answer) (sym (such_front Seals 0 (bank_head_page b.geometry.page (target_head b)) (omega arith)) ∙ seals)
  seal_at (Gate failed) same seals = sym (such_front Seals 1 (gate_page b.geometry.page) (omega arith)) ∙ seals

  taken_at : (x : Course) → c ≡ x → IsTrue (is_such_op m TakesKept (step_op b x) answer) → ⊥
  taken_at (Erase n) same takes = cc takes
  taken_at (Copy None) same takes = (let none : true ≡ false = sym takes ∙ (mark_plain same (next_copy b.log.numbers b.log.places b.log.flags)).takes in cc none)
  taken_at (Copy (Some w)) same takes = (let none : true ≡ false = sym takes ∙ (copy_plain w same).takes in cc none)
  taken_at Head same takes = (let none : true ≡ false = sym takes ∙ such_front TakesKept 0 (bank_head_page b.geometry.page (target_head b)) (omega arith) ∙ not_kept m 0 (front 0 (omega arith)).0 in cc none)
  taken_at (Gate failed) same takes = (let none : true ≡ false = sym takes ∙ such_front TakesKept 1 (gate_page b.geometry.page) (omega arith) ∙ not_kept m 1 (front 1 (omega arith)).0 in cc none)

  pub step_seals : IsTrue (is_such m Seals (change_of (step_op b c) s.fls.flash answer)) → seals_by c answer ≡ true
  step_seals seals = seal_at c refl seals

  pub step_takes : TakesKeptPages (step_op b c) answer (flash_device (device_of m entry s))
  step_takes takes = absurd (taken_at c refl takes)
