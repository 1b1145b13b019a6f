-- The operations of a device: each is due.
use Rattle.std.specs.Prelude.{◌||◌, ◌&&◌, ◌++◌, ◌∷◌, IfSome, IsTrue, is_some, take, unwrap_or}
use Rattle.std.proofs.lemmas.List.Elements.{All-take}
use Rattle.std.proofs.Common.{◌≡◌, inl, inr, ◌<◌, ℕ, Bool, true, false, List, [], Option, Some, None, sym, ap, ◌∙◌, subst, arith}
use Rattle.nv_base.specs.Geometry.{pages_of_bank, address_of_page}
use Rattle.nv_base.specs.declared.geometry.Geometry.{Geometry}
use Rattle.nv_base.specs.declared.instance.DeviceNumber.{DeviceNumber}
use Rattle.fls_model.specs.declared.flash.FlashAnswer.{FlashAnswer}
use Rattle.fls_model.specs.Op.{Op}
use Rattle.fls_model.specs.Told.{Told, bytes_now}
use Rattle.fls_jobs.specs.State.{FlsState}
use Rattle.fee_format.specs.BankHead.{bank_head_page}
use Rattle.fee_format.specs.Pages.{gate_page, same_bytes}
use Rattle.fee_format.proofs.Tests.{bytes_are}
use Rattle.fee_format.specs.declared.rec_head.RecHead.{RecHead}
use Rattle.fee_switch_laws.specs.fee_log.Log.{work_in, begun}
use Rattle.fee_switch_laws.specs.fee_log.Step.{IsPageOf, due_bytes}
use Rattle.fee_course.specs.declared.course.Course.{Course}
use Rattle.fee_course.specs.declared.course.Course.TheVariants.{Erase, Copy, Head, Gate}
use Rattle.fee_switch_laws.specs.fee_switch.declared.target.Stage.TheVariants as stage
use Rattle.fee_switch_laws.specs.fee_switch.Banks.{BanksState, next_generation, reads_next}
use Rattle.fee_switch_laws.specs.KeepsRoom.{IsOpenCopy, IsRoomy}
use Rattle.fee_switch_laws.proofs.RoomAppends.{work_begun}
use Rattle.promise_device.specs.Making.{Making}
use Rattle.promise_device.specs.Bridge.{reading_of}
use Rattle.promise_device.specs.Wear.{finds_blank, is_repeated, leaves_room, comes_behind, is_front_due, has_place, is_due_there, is_due_by}
use Rattle.promise_device.proofs.Wears.{all_two, one_of, due_go_on}
use Rattle.fee_told.specs.fls_told.Clock.{change_of}
use Rattle.fee_told.specs.fls_told.Device.{is_told_sound}
use Rattle.fee_told.proofs.ToldBytes.{now_at}
use Rattle.fee_laws.specs.declared.job.FeeJob.{FeeJob}
use Rattle.fee_laws.specs.Inside.{Parts, body_of}
use Rattle.fee_laws.specs.Record.{IsInWork}
use Rattle.fee_laws.specs.Turn.{IsOn}
use Rattle.fee_laws.specs.Appends.{work_op, work_body}
use Rattle.fee_laws.specs.Switches.{IsStepping, op_in, copy_op_of, step_op, failed_with}
use Rattle.fee_laws.specs.Follows.{target_head, FollowsBanks, FollowsTarget, FollowsNext, FollowsBytes, Follows}
use Rattle.fee_laws.specs.Wears.{Wears, StepsWear, PagesWear}
use Rattle.fee_laws.proofs.Before.{power}
use Rattle.fee_laws.proofs.FollowOperations.{page_is_blank}
use Rattle.fee_laws.proofs.FollowBanks.{some_page, legal}
use Rattle.fee_laws.proofs.FollowKnown.{follows_log}
use Rattle.fee_laws.proofs.FollowLifts.{some_of}
use Rattle.fee_laws.proofs.FollowTurned.{mark, mark_op, may_mark, mark_fits}
use Rattle.fee_laws.proofs.FollowCopies.{page_small, begun_holds, begun_state, begun_tail}
use Rattle.fee_laws.proofs.FollowBytes.{bank_head_is, gate_is}
use Rattle.fee_laws.proofs.WornErases.{bytes_by, erase_is_due}
use Rattle.fee_laws.proofs.WornHeads.{head_is_due}
use Rattle.fee_laws.proofs.WornPrograms.{front_is, place_is, program_due, record_due}
use Rattle.fee_laws.proofs.WornGates.{gate_leaves_room}

-- one operation more, over the bytes that are told
go_on : (m : Making) (entry : Told) (s : Parts) (listed : List (DeviceNumber × ℕ)) (kept count : ℕ) (op : Op) (answer : FlashAnswer) → IsOn m entry s listed kept count → Follows s
    → (IsTrue (is_told_sound (reading_of m) (bytes_now entry)) → (bytes : List ℕ) → bytes_now s.fls.flash ≡ Some bytes → FollowsBytes s.banks s.content s.operations bytes → IsTrue (is_due_by m s.operations bytes op))
    → Wears m entry s.operations → Wears m entry (s.operations ++ change_of op s.fls.flash answer ∷ [])
go_on m entry s listed kept count op answer on follows due wears told =
    let now = bytes_by m entry.bytes s.fls.flash.bytes on.sound.device.run.alike told in
    let here = now_at s.fls.flash.bytes (FollowsBytes s.banks s.content s.operations) now.0 now.1 (follows on.started (power m entry s listed kept count on)) in
    let x = change_of op s.fls.flash answer in
    let same : x.before ≡ now.0 = ap (λ (o : Option (List ℕ)). unwrap_or o []) now.1 in
    due_go_on m [] s.operations x (wears told) (subst (λ (image : List ℕ). IsTrue (is_due_by m s.operations image op)) (sym same) (due told now.0 now.1 here))

-- A RECORD
pub pages_wear : PagesWear
pages_wear m entry s listed kept count answer f is follows wears =
    let on = is.on in
    let h = some_of (work_in s.banks.log.tail) is.work in
    let in_work : IsInWork s.banks s.job h.0 = subst (λ (o : Option RecHead). IfSome o (IsInWork s.banks s.job)) h.1 (on.sound.works on.started).work in
    let a = some_of s.banks.active in_work.active in
    go_on m entry s listed kept count (work_op s) answer on follows
    (λ told bytes at here. record_due m s.operations s.banks.log _ bytes (work_body s) (on.banks.log.shape ∙ on.sound.made_for.banks_geometry) (on.banks.log.shared ∙ on.sound.made_for.shared) on.log (follows_log m entry s listed kept count on bytes here a.0 a.1).holds is.work
    (subst (λ (g : Geometry). IsPageOf g.page (due_bytes s.banks.log (work_body s))) (sym on.banks.log.shape) is.page)) wears

-- A SWITCH
module _ (m : Making) (entry : Told) (s : Parts) (listed : List (DeviceNumber × ℕ)) (kept count : ℕ) (c : Course) (made : BanksState) (answer : FlashAnswer) (f : FlsState) (is : IsStepping m entry s listed kept count c made answer f) (bytes : List ℕ) (here : FollowsBytes s.banks s.content s.operations bytes) where
  target : FollowsTarget s.banks c bytes
  target = (subst (λ (o : Option Course). FollowsBanks s.banks o bytes) is.course here.banks).1

  next : FollowsNext s.banks c s.operations bytes
  next = subst (λ (o : Option Course). IfSome o (λ x. FollowsNext s.banks x s.operations bytes)) is.course here.next

  some : 0 < s.banks.geometry.page
  some = some_page s.banks.geometry is.on.banks.legal

  inside : 1 < pages_of_bank s.banks.geometry s.banks.banks
  inside = let two = (legal s.banks is.on.banks bytes bytes).pages in omega (arith, two)

  roomy : IsRoomy m.reserve s.banks c
  roomy = subst (λ (o : Option Course). IfSome o (IsRoomy m.reserve s.banks)) is.course (is.on.sound.room is.on.started (power m entry s listed kept count is.on)).switch

gate_page_due : (m : Making) (entry : Told) (s : Parts) (listed : List (DeviceNumber × ℕ)) (kept count : ℕ) (failed : Bool) (made : BanksState) (answer : FlashAnswer) (f : FlsState) → IsStepping m entry s listed kept count (Gate failed) made answer f → (bytes : List ℕ) → FollowsBytes s.banks s.content s.operations bytes
    → IsTrue (finds_blank m.geometry.page (address_of_page s.banks.geometry s.banks.banks s.banks.target 1) bytes || is_repeated m.geometry m.banks s.operations (op_in s.banks stage.Gate))
    → IsTrue (comes_behind s.banks.geometry (op_in s.banks stage.Gate) s.operations) → IsTrue (is_due_by m s.operations bytes (op_in s.banks stage.Gate))
gate_page_due m entry s listed kept count failed made answer f is bytes here due behind =
    let c = Gate failed in
    let b = s.banks in
    let address = address_of_page b.geometry b.banks b.target 1 in
    let gate = gate_page b.geometry.page in
    let front = front_is m s.operations b.geometry b.banks b.target 1 gate bytes is.on.sound.made_for.banks_geometry is.on.sound.made_for.shared
    (some m entry s listed kept count c made answer f is bytes here) (inside m entry s listed kept count c made answer f is bytes here)
    (all_two (same_bytes gate (gate_page m.geometry.page)) (comes_behind m.geometry (op_in b stage.Gate) s.operations) ((bytes_are _ _).1 (ap (λ (g : Geometry). gate_page g.page) is.on.sound.made_for.banks_geometry))
    (subst (λ (g : Geometry). IsTrue (comes_behind g (op_in b stage.Gate) s.operations)) is.on.sound.made_for.banks_geometry behind)) in
    let room = gate_leaves_room m b is.on.banks failed is.on.sound.made_for.banks_geometry is.on.sound.made_for.shared is.on.sound.made_for.numbers (roomy m entry s listed kept count c made answer f is bytes here) bytes
    (target m entry s listed kept count c made answer f is bytes here).1.holds (some m entry s listed kept count c made answer f is bytes here) (inside m entry s listed kept count c made answer f is bytes here) in
    all_two (has_place m (op_in b stage.Gate)) (is_due_there m s.operations bytes (op_in b stage.Gate))
    (place_is m b.geometry b.banks b.target 1 gate is.on.sound.made_for.banks_geometry is.on.sound.made_for.shared (some m entry s listed kept count c made answer f is bytes here) is.on.banks.target
    (inside m entry s listed kept count c made answer f is bytes here) (gate_is b.geometry.page).size)
    (all_two _ (leaves_room m address bytes && is_front_due m s.operations address gate bytes) due (all_two (leaves_room m address bytes) _ room front))

steps : (m : Making) (entry : Told) (s : Parts) (listed : List (DeviceNumber × ℕ)) (kept count : ℕ) (c : Course) (made : BanksState) (answer : FlashAnswer) (f : FlsState)
    → IsStepping m entry s listed kept count c made answer f → reads_next s.banks.log (Some c) ≡ false → IsTrue (is_told_sound (reading_of m) (bytes_now entry)) → (bytes : List ℕ) → bytes_now s.fls.flash ≡ Some bytes → FollowsBytes s.banks s.content s.operations bytes
    → IsTrue (is_due_by m s.operations bytes (step_op s.banks c))
steps m entry s listed kept count (Erase n) made answer f is changes told bytes at here = erase_is_due m entry s listed kept count is.on n is.course is.idle told bytes at here
steps m entry s listed kept count (Copy None) made answer f is changes told bytes at here =
    let copies = s.banks.copies in
    let may = may_mark m entry s listed kept count made answer f is changes in
    let head = mark m entry s listed kept count made answer f is changes in
    let fits = mark_fits m entry s listed kept count made answer f is changes in
    let holds = (target m entry s listed kept count (Copy None) made answer f is bytes here).1.holds in
    let before = body_of (work_in copies.tail) s.banks.buffer in
    let state = begun_state copies is.copies may.tail head may.configured may.room before s.banks.buffer bytes fits holds in
    subst (λ (op : Op). IsTrue (is_due_by m s.operations bytes op)) (sym (mark_op m entry s listed kept count made answer f is))
    (record_due m s.operations (begun copies head) _ bytes [] (is.on.banks.copies.shape ∙ is.on.sound.made_for.banks_geometry) (is.on.banks.copies.shared ∙ is.on.sound.made_for.shared) state
    (begun_holds copies is.copies may.tail head may.configured may.room before s.banks.buffer bytes fits holds) (ap is_some (work_begun copies.tail head))
    (page_small (begun copies head) head 0 [] (begun_tail copies is.copies may.tail head may.configured may.room before s.banks.buffer bytes fits holds) state (λ i d lt. absurd (omega arith))))
steps m entry s listed kept count (Copy (Some w)) made answer f is changes told bytes at here =
    let roomy = subst (λ (o : Option Course). IfSome o (IsRoomy m.reserve s.banks)) is.course (is.on.sound.room is.on.started (power m entry s listed kept count is.on)).switch in
    let open_copy : IsOpenCopy s.banks w = roomy.target.work in
    let work : work_in s.banks.copies.tail ≡ Some open_copy.head = ap work_in open_copy.tail in
    subst (λ (op : Op). IsTrue (is_due_by m s.operations bytes op)) (sym (ap (copy_op_of s.banks) work))
    (record_due m s.operations s.banks.copies _ bytes (take open_copy.head.length s.banks.buffer) (is.on.banks.copies.shape ∙ is.on.sound.made_for.banks_geometry) (is.on.banks.copies.shared ∙ is.on.sound.made_for.shared) is.copies
    (target m entry s listed kept count (Copy (Some w)) made answer f is bytes here).1.holds (ap is_some work)
    (page_small s.banks.copies open_copy.head open_copy.done (take open_copy.head.length s.banks.buffer) open_copy.tail is.copies (All-take (λ (b : ℕ). b < 256) open_copy.head.length s.banks.buffer is.bytes)))
steps m entry s listed kept count Head made answer f is changes told bytes at here =
    let one = inside m entry s listed kept count Head made answer f is bytes here in
    program_due m s.operations s.banks.geometry s.banks.banks s.banks.target 0 (bank_head_page s.banks.geometry.page (target_head s.banks)) bytes is.on.sound.made_for.banks_geometry is.on.sound.made_for.shared
    (some m entry s listed kept count Head made answer f is bytes here) is.on.banks.target (omega (arith, one)) (bank_head_is s.banks.geometry.page (next_generation s.banks.active) is.on.banks.legal.page_low).size (λ e. (let z : ◌≡◌ {A = ℕ} 0 1 = e in cc z)) ((target m entry s listed kept count Head made answer f is bytes here).0 0 (omega arith) (omega (arith, one)))
    (head_is_due m entry s listed kept count is.on is.course told bytes at)
steps m entry s listed kept count (Gate false) made answer f is changes told bytes at here =
    let blank = next m entry s listed kept count (Gate false) made answer f is bytes here in
    gate_page_due m entry s listed kept count false made answer f is bytes here
    (one_of _ _ (inl (subst (λ (g : Geometry). IsTrue (finds_blank g.page (address_of_page s.banks.geometry s.banks.banks s.banks.target 1) bytes)) is.on.sound.made_for.banks_geometry
    (page_is_blank s.banks.geometry s.banks.banks s.banks.target 1 bytes (some m entry s listed kept count (Gate false) made answer f is bytes here) blank.0)))) blank.1
steps m entry s listed kept count (Gate true) made answer f is changes told bytes at here =
    let again = next m entry s listed kept count (Gate true) made answer f is bytes here in
    let op = op_in s.banks stage.Gate in
    gate_page_due m entry s listed kept count true made answer f is bytes here
    (one_of _ _ (inr (subst (λ (b : ℕ). IsTrue (is_repeated m.geometry b s.operations op)) is.on.sound.made_for.shared
    (subst (λ (g : Geometry). IsTrue (is_repeated g s.banks.banks s.operations op)) is.on.sound.made_for.banks_geometry again.0)))) again.1

pub steps_wear : StepsWear
steps_wear m entry s listed kept count c made answer f is changes follows wears =
    go_on m entry s listed kept count (step_op s.banks c) answer is.on follows (steps m entry s listed kept count c made answer f is changes) wears

-- and so does a job that ends with a failure, or none
pub failed_wears : (m : Making) (entry : Told) (job : Option FeeJob) (s : Parts) → Wears m entry s.operations → Wears m entry (failed_with job s).operations
failed_wears m entry None s wears = wears
failed_wears m entry (Some j) s wears = wears
