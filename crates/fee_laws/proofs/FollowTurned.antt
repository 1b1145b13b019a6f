-- The turns of a device: a page of a record, and each step of a switch.
use Rattle.std.specs.Prelude.{IfSome, take, slice_get, slice_index_or}
use Rattle.std.proofs.Common.{◌≡◌, ◌<◌, ◌≤◌, ◌+◌, ◌*◌, ◌++◌, ◌∷◌, ℕ, zero, suc, true, false, List, [], length, Option, Some, None, refl, sym, ap, ◌∙◌, subst, arith}
use Rattle.std.proofs.lemmas.List.{length-take-le}
use Rattle.nv_base.specs.Geometry.{sectors_of_bank, address_of_page}
use Rattle.nv_base.specs.Pages.{record_pages_of}
use Rattle.nv_base.specs.declared.geometry.Geometry.{Geometry}
use Rattle.nv_base.specs.declared.instance.DeviceNumber.{DeviceNumber}
use Rattle.fls_model.specs.declared.flash.FlashAnswer.{FlashAnswer}
use Rattle.fls_model.specs.declared.flash.FlashAnswer.TheVariants.{Done, Failed, Off}
use Rattle.fls_model.specs.Op.{Op, MayLeave}
use Rattle.fls_model.specs.Read.{IsRead}
use Rattle.fls_model.specs.Step.{IsStep, Leaves}
use Rattle.fls_model.specs.Told.{Told}
use Rattle.fls_jobs.specs.State.{FlsState}
use Rattle.fee_format.specs.declared.rec_head.RecHead.{RecHead}
use Rattle.fee_format.specs.declared.rec_head.RecordKind.TheVariants as kind
use Rattle.fee_image.specs.declared.place.Place.{Place}
use Rattle.fee_image.specs.declared.place.Place.TheVariants as place
use Rattle.fee_switch_laws.specs.fee_log.Log.{work_in, begun, free_in}
use Rattle.fee_switch_laws.specs.fee_log.Step.{op_of, after_step}
use Rattle.fee_course.specs.declared.copies.Source.{Source}
use Rattle.fee_course.specs.declared.course.Course.{Course}
use Rattle.fee_course.specs.declared.course.Course.TheVariants.{Erase, Copy, Head, Gate}
use Rattle.fee_course.specs.Course.{IsShort}
use Rattle.fee_course.specs.Copies.{next_copy}
use Rattle.fee_switch_laws.specs.fee_switch.declared.target.Stage.TheVariants as stage
use Rattle.fee_switch_laws.specs.fee_switch.Target.{op_at}
use Rattle.fee_switch_laws.specs.fee_switch.Banks.{BanksState, TakesRecord, target_at, reads_next, reads_source, reads_place, after_answer}
use Rattle.fee_switch_laws.specs.fee_switch.Copy.{CanCopy, CanGoOn, BeginsAt, begun_where, head_at}
use Rattle.fee_switch_laws.specs.Shown.{layout_in}
use Rattle.fee_switch_laws.specs.KeepsRoom.{IsRoomy, IsTargetLog, IsOpenCopy}
use Rattle.fee_switch_laws.proofs.RoomReady.{steps_may_be_made}
use Rattle.promise_device.specs.Making.{Making}
use Rattle.fee_told.specs.fls_told.Clock.{change_of}
use Rattle.fee_laws.specs.Inside.{Parts, body_of}
use Rattle.fee_laws.specs.Record.{IsInWork}
use Rattle.fee_laws.specs.Turn.{IsOn, operated}
use Rattle.fee_laws.specs.Appends.{work_op}
use Rattle.fee_laws.specs.Switches.{IsStepping, mark_op_of, mark_op_for, copy_op_of, step_op}
use Rattle.fee_laws.specs.Follows.{FollowsBytes, Follows}
use Rattle.fee_laws.specs.FollowLaws.{PagesFollow, StepsFollow, CopiesFollow}
use Rattle.fee_laws.proofs.FollowAppends.{goes_on}
use Rattle.fee_laws.proofs.FollowErases.{erase_fails, erase_goes_on}
use Rattle.fee_laws.proofs.FollowHeads.{head_fails, head_stands}
use Rattle.fee_laws.proofs.FollowGates.{gate_fails, gate_stands}
use Rattle.fee_laws.proofs.FollowCopied.{page_copied}
use Rattle.fee_laws.proofs.FollowMarked.{MayCopy, mark_copied}
use Rattle.fee_laws.proofs.FollowContents.{content_copied}
use Rattle.fee_laws.proofs.FollowLifts.{some_of, all_pages, operation_follows, memory_follows, read_bytes, read_off}
use Rattle.fee_laws.proofs.Before.{power}

-- A PAGE OF A RECORD
-- a record in work is one that the open switch takes
takes_by : (reserve : ℕ) (s : BanksState) (o : Option Course) → IfSome o (IsRoomy reserve s) → IfSome o (λ c. IfSome (work_in s.log.tail) (λ h. TakesRecord h.kind (Some c)))
takes_by reserve s None switch = tt
takes_by reserve s (Some c) switch = switch.work

pub pages_follow : PagesFollow
pages_follow m entry s listed kept count answer f is follows =
    let on = is.on in
    let h = some_of (work_in s.banks.log.tail) is.work in
    let in_work : IsInWork s.banks s.job h.0 = subst (λ (o : Option RecHead). IfSome o (IsInWork s.banks s.job)) h.1 (on.sound.works on.started).work in
    let a = some_of s.banks.active in_work.active in
    operation_follows s f (record s.banks { log = after_step s.banks.log answer }) (work_op s) (work_op s) answer on.started (power m entry s listed kept count on) is.step
    (λ not_off old new at leaves left was. goes_on s.banks on.banks on.log s.content old new s.operations (change_of (work_op s) s.fls.flash answer) a.0 a.1 is.work was is.page leaves
    (takes_by m.reserve s.banks s.banks.course (on.sound.room on.started (power m entry s listed kept count on)).switch) answer not_off left refl refl) follows

module _ (m : Making) (entry : Told) (s : Parts) (listed : List (DeviceNumber × ℕ)) (kept count : ℕ) (c : Course) (made : BanksState) (answer : FlashAnswer) (f : FlsState) (is : IsStepping m entry s listed kept count c made answer f) where
  abbrev on : IsOn m entry s listed kept count
  on = is.on

  on_power : s.fls.flash.off ≡ false
  on_power = power m entry s listed kept count on

  roomy : IsRoomy m.reserve s.banks c
  roomy = subst (λ (o : Option Course). IfSome o (IsRoomy m.reserve s.banks)) is.course (on.sound.room on.started on_power).switch

  short : IsShort (sectors_of_bank s.banks.geometry s.banks.banks) c
  short = subst (λ (o : Option Course). IfSome o (IsShort (sectors_of_bank s.banks.geometry s.banks.banks))) is.course on.banks.course

  -- done or failed, where it was this operation and leaves these banks
  lift : (op : Op) (b : BanksState) → IsStep op s.fls.flash answer f.flash → made ≡ b
      → ((answer ≡ Off → ⊥) → (old new : List ℕ) → (layout_in s.banks).pages * (layout_in s.banks).page * s.banks.banks ≤ length old → MayLeave op old new → Leaves op answer old new
      → FollowsBytes s.banks s.content s.operations old → FollowsBytes (after_answer b c answer) s.content (s.operations ++ change_of (step_op s.banks c) s.fls.flash answer ∷ []) new)
      → Follows s → Follows (operated (step_op s.banks c) answer f (after_answer made c answer) s)
  lift op b step same goes follows =
      subst (λ (y : BanksState). Follows (operated (step_op s.banks c) answer f (after_answer y c answer) s)) (sym same)
      (operation_follows s f (after_answer b c answer) op (step_op s.banks c) answer on.started on_power step
      (λ not_off old new at leaves left was. goes not_off old new (all_pages m entry s listed kept count on old at) leaves left was) follows)

-- ITS FIRST ONE
pub slice_is : (ns : List (DeviceNumber × ℕ)) (i : ℕ) (n : DeviceNumber) (size : ℕ) → i < length ns → ((d : DeviceNumber × ℕ) → slice_index_or ns i d ≡ (n, size)) → slice_get ns i ≡ Some (n, size)
slice_is [] i n size less named = absurd (omega arith)
slice_is (x ∷ xs) zero n size less named = ap (λ (y : DeviceNumber × ℕ). Some y) (named x)
slice_is (x ∷ xs) (suc i) n size less named = slice_is xs i n size (omega arith) named

-- the number that is copied next, in what makes its copy, and in what was known before
pub mark_length : (p : Place) (n : DeviceNumber) (size : ℕ) → reads_place p ≡ false → (head_at p n size).length ≡ 0
mark_length (place.Content at count) n size reads = cc reads
mark_length (place.Invalid count) n size reads = refl
mark_length (place.Erased count) n size reads = refl
mark_length place.Unwritten n size reads = refl

mark_begins : (p : Place) (s : BanksState) (n : DeviceNumber) (size : ℕ) (told told' : Told) (answer : FlashAnswer) (made : BanksState) → reads_place p ≡ false → BeginsAt p s n size told answer made told'
    → let k = begun s.copies (head_at p n size) in IsStep (op_of k []) told answer told' × (made ≡ record s { copies = after_step k answer })
mark_begins (place.Content at count) s n size told told' answer made reads begins = cc reads
mark_begins (place.Invalid count) s n size told told' answer made reads begins = begins
mark_begins (place.Erased count) s n size told told' answer made reads begins = begins
mark_begins place.Unwritten s n size told told' answer made reads begins = begins

pub is_content : (p : Place) → reads_place p ≡ true → (at : ℕ) × (count : ℕ) × (p ≡ place.Content at count)
is_content (place.Content at count) reads = (at, count, refl)
is_content (place.Invalid count) reads = cc reads
is_content (place.Erased count) reads = cc reads
is_content place.Unwritten reads = cc reads

module _ (m : Making) (entry : Told) (s : Parts) (listed : List (DeviceNumber × ℕ)) (kept count : ℕ) (made : BanksState) (answer : FlashAnswer) (f : FlsState) (is : IsStepping m entry s listed kept count (Copy None) made answer f) where
  pub can : CanCopy s.banks
  can = subst (λ (o : Option Course). IfSome o (CanGoOn s.banks)) is.course (steps_may_be_made m.reserve s.banks is.on.banks is.on.log (is.on.sound.room is.on.started (power m entry s listed kept count is.on)))

  abbrev src : Source
  src = can.source

  abbrev num : DeviceNumber
  num = can.number

  source_same : is.makes.source ≡ src
  source_same = let a = is.makes.next.first in let b = can.next.first in cc (a, b)

  number_same : is.makes.number ≡ num
  number_same =
      let d : DeviceNumber × ℕ = (num, src.length) in
      let a = is.makes.next.named d in
      let b = can.next.named d in
      let same : slice_index_or s.banks.log.numbers is.makes.source.index d ≡ slice_index_or s.banks.log.numbers src.index d = ap (λ (y : Source). slice_index_or s.banks.log.numbers y.index d) source_same in
      ap (λ (y : DeviceNumber × ℕ). y.0) (sym a ∙ same ∙ b)

  begins_at : BeginsAt src.place s.banks num src.length s.fls.flash answer made f.flash
  begins_at = subst (λ (y : DeviceNumber). BeginsAt src.place s.banks y src.length s.fls.flash answer made f.flash) number_same
      (subst (λ (y : Source). BeginsAt y.place s.banks is.makes.number y.length s.fls.flash answer made f.flash) source_same is.makes.begins)

  target : IsTargetLog s.banks (Copy None)
  target = (subst (λ (o : Option Course). IfSome o (IsRoomy m.reserve s.banks)) is.course (is.on.sound.room is.on.started (power m entry s listed kept count is.on)).switch).target

  may_copy : MayCopy s.banks (head_at src.place num src.length)
  may_copy = record {
    tail = target.work;
    configured = can.can.configured;
    room = subst (λ (g : Geometry). record_pages_of (head_at src.place num src.length).length g.page ≤ free_in s.banks.copies) (sym is.on.banks.copies.shape) can.can.room;
  }

  -- its first operation
  pub mark_op : mark_op_of s.banks (next_copy s.banks.log.numbers s.banks.log.places s.banks.log.flags) ≡ op_of (begun s.banks.copies (head_at src.place num src.length)) []
  mark_op = ap (mark_op_of s.banks) can.next.first ∙ ap (mark_op_for s.banks.copies src.place) (slice_is s.banks.log.numbers src.index num src.length can.next.inside can.next.named)

  -- a mark
  module _ (changes : reads_next s.banks.log (Some (Copy None)) ≡ false) where
    unread : reads_place src.place ≡ false
    unread = sym (ap reads_source can.next.first) ∙ changes

    abbrev pub mark : RecHead
    mark = head_at src.place num src.length

    none : mark.length ≡ 0
    none = mark_length src.place num src.length unread

    pub may_mark : MayCopy s.banks mark
    may_mark = may_copy

    pub mark_fits : length (body_of (Some mark) s.banks.buffer) ≡ mark.length
    mark_fits = ap (λ (n : ℕ). length (take n s.banks.buffer)) none ∙ sym none

    begins_mark : IsStep (op_of (begun s.banks.copies mark) []) s.fls.flash answer f.flash × (made ≡ record s.banks { copies = after_step (begun s.banks.copies mark) answer })
    begins_mark = mark_begins src.place s.banks num src.length s.fls.flash f.flash answer made unread begins_at

  -- a content
  module _ (reads : reads_next s.banks.log (Some (Copy None)) ≡ true) where
    content_at : (at : ℕ) × (count : ℕ) × (src.place ≡ place.Content at count)
    content_at = is_content src.place (sym (ap reads_source can.next.first) ∙ reads)

    abbrev copy : RecHead
    copy = record { number = num; kind = kind.Content; length = src.length; count = content_at.1 }

    may_content : MayCopy s.banks copy
    may_content = subst (MayCopy s.banks) (ap (λ (p : Place). head_at p num src.length) content_at.2) may_copy

    begins_content : IsRead (address_of_page s.banks.geometry s.banks.banks s.banks.log.bank (content_at.0 + 2)) s.fls.flash (take src.length s.banks.buffer) answer (take src.length made.buffer) f.flash
        × (made ≡ record s.banks { copies = begun_where answer s.banks.copies copy; buffer = made.buffer })
    begins_content = subst (λ (p : Place). BeginsAt p s.banks num src.length s.fls.flash answer made f.flash) content_at.2 begins_at

    content_fits : length made.buffer ≡ length s.banks.buffer → length (body_of (Some copy) made.buffer) ≡ copy.length
    content_fits wide = (let few = can.can.fits in length-take-le src.length made.buffer (omega (arith, few, wide)))

-- THE STEPS
steps : (m : Making) (entry : Told) (s : Parts) (listed : List (DeviceNumber × ℕ)) (kept count : ℕ) (c : Course) (made : BanksState) (answer : FlashAnswer) (f : FlsState)
    → IsStepping m entry s listed kept count c made answer f → reads_next s.banks.log (Some c) ≡ false → Follows s → Follows (operated (step_op s.banks c) answer f (after_answer made c answer) s)
steps m entry s listed kept count (Erase n) made answer f is changes =
    lift m entry s listed kept count (Erase n) made answer f is (op_at (target_at s.banks (stage.Erase n)) (stage.Erase n)) s.banks is.makes.0 is.makes.1 (λ not_off old new wide leaves left was. by_answer answer old new wide leaves left was refl not_off)
  where
    by_answer : (a : FlashAnswer) (old new : List ℕ) → (layout_in s.banks).pages * (layout_in s.banks).page * s.banks.banks ≤ length old → MayLeave (op_at (target_at s.banks (stage.Erase n)) (stage.Erase n)) old new → Leaves (op_at (target_at s.banks (stage.Erase n)) (stage.Erase n)) a old new
        → FollowsBytes s.banks s.content s.operations old → a ≡ answer → (a ≡ Off → ⊥) → FollowsBytes (after_answer s.banks (Erase n) a) s.content (s.operations ++ change_of (step_op s.banks (Erase n)) s.fls.flash answer ∷ []) new
    by_answer Done old new wide leaves left was same online =
        erase_goes_on s.banks is.on.banks s.content old new s.operations (change_of (step_op s.banks (Erase n)) s.fls.flash answer) n is.course (short m entry s listed kept count (Erase n) made answer f is) leaves refl was wide is.copies
        (roomy m entry s listed kept count (Erase n) made answer f is).target.copies left (sym same)
    by_answer Failed old new wide leaves left was same online =
        erase_fails s.banks is.on.banks s.content old new s.operations (change_of (step_op s.banks (Erase n)) s.fls.flash answer) n is.course (short m entry s listed kept count (Erase n) made answer f is) leaves refl was (sym same)
    by_answer Off old new wide leaves left was same online = absurd (online refl)
steps m entry s listed kept count Head made answer f is changes =
    lift m entry s listed kept count Head made answer f is (op_at (target_at s.banks stage.Head) stage.Head) s.banks is.makes.0 is.makes.1 (λ not_off old new wide leaves left was. by_answer answer old new wide leaves left was refl not_off)
  where
    by_answer : (a : FlashAnswer) (old new : List ℕ) → (layout_in s.banks).pages * (layout_in s.banks).page * s.banks.banks ≤ length old → MayLeave (op_at (target_at s.banks stage.Head) stage.Head) old new → Leaves (op_at (target_at s.banks stage.Head) stage.Head) a old new
        → FollowsBytes s.banks s.content s.operations old → a ≡ answer → (a ≡ Off → ⊥) → FollowsBytes (after_answer s.banks Head a) s.content (s.operations ++ change_of (step_op s.banks Head) s.fls.flash answer ∷ []) new
    by_answer Done old new wide leaves left was same online = head_stands s.banks is.on.banks s.content old new s.operations (change_of (step_op s.banks Head) s.fls.flash answer) is.course leaves refl was wide left (sym same)
    by_answer Failed old new wide leaves left was same online = head_fails s.banks is.on.banks s.content old new s.operations (change_of (step_op s.banks Head) s.fls.flash answer) is.course leaves refl was
    by_answer Off old new wide leaves left was same online = absurd (online refl)
steps m entry s listed kept count (Gate failed) made answer f is changes =
    lift m entry s listed kept count (Gate failed) made answer f is (op_at (target_at s.banks stage.Gate) stage.Gate) s.banks is.makes.0 is.makes.1 (λ not_off old new wide leaves left was. by_answer answer old new wide leaves left was refl not_off)
  where
    by_answer : (a : FlashAnswer) (old new : List ℕ) → (layout_in s.banks).pages * (layout_in s.banks).page * s.banks.banks ≤ length old → MayLeave (op_at (target_at s.banks stage.Gate) stage.Gate) old new → Leaves (op_at (target_at s.banks stage.Gate) stage.Gate) a old new
        → FollowsBytes s.banks s.content s.operations old → a ≡ answer → (a ≡ Off → ⊥) → FollowsBytes (after_answer s.banks (Gate failed) a) s.content (s.operations ++ change_of (step_op s.banks (Gate failed)) s.fls.flash answer ∷ []) new
    by_answer Done old new wide leaves left was same online =
        (let room = roomy m entry s listed kept count (Gate failed) made answer f is in
        gate_stands s.banks is.on.banks s.content old new s.operations (change_of (step_op s.banks (Gate failed)) s.fls.flash answer) failed is.course leaves refl was wide room.worn room.target.work left)
    by_answer Failed old new wide leaves left was same online = gate_fails s.banks is.on.banks s.content old new s.operations (change_of (step_op s.banks (Gate failed)) s.fls.flash answer) failed is.course leaves refl was (sym same)
    by_answer Off old new wide leaves left was same online = absurd (online refl)
steps m entry s listed kept count (Copy (Some w)) made answer f is changes =
    let here : IsOpenCopy s.banks w = (roomy m entry s listed kept count (Copy (Some w)) made answer f is).target.work in
    let work : work_in s.banks.copies.tail ≡ Some here.head = ap work_in here.tail in
    let step = subst (λ (o : Option RecHead). IsStep (op_of s.banks.copies (body_of o s.banks.buffer)) s.fls.flash answer f.flash) (sym work) (is.makes.0 here.head work) in
    lift m entry s listed kept count (Copy (Some w)) made answer f is (op_of s.banks.copies (body_of (work_in s.banks.copies.tail) s.banks.buffer)) (record s.banks { copies = after_step s.banks.copies answer }) step is.makes.1
    (λ not_off old new wide leaves left was. page_copied s.banks is.on.banks s.content old new s.operations (change_of (step_op s.banks (Copy (Some w))) s.fls.flash answer) w is.course is.copies here.head here.done here.tail is.bytes leaves (ap (copy_op_of s.banks) work ∙ ap (λ (o : Option RecHead). op_of s.banks.copies (body_of o s.banks.buffer)) (sym work)) was answer not_off left)
steps m entry s listed kept count (Copy None) made answer f is changes =
    let begins = begins_mark m entry s listed kept count made answer f is changes in
    let may = may_copy m entry s listed kept count made answer f is in
    let mark' = mark m entry s listed kept count made answer f is changes in
    let none' = none m entry s listed kept count made answer f is changes in
    lift m entry s listed kept count (Copy None) made answer f is (op_of (begun s.banks.copies mark') []) (record s.banks { copies = after_step (begun s.banks.copies mark') answer }) begins.0 begins.1
    (λ not_off old new wide leaves left was. mark_copied s.banks is.on.banks s.content old new s.operations (change_of (step_op s.banks (Copy None)) s.fls.flash answer) is.course is.copies mark' none' may leaves (mark_op m entry s listed kept count made answer f is) was answer not_off left)

pub steps_follow : StepsFollow
steps_follow m entry s listed kept count c made answer f is changes follows = steps m entry s listed kept count c made answer f is changes follows

pub copies_follow : CopiesFollow
copies_follow m entry s listed kept count made answer f is reads wide follows =
    let begins = begins_content m entry s listed kept count made answer f is reads in
    let may = may_content m entry s listed kept count made answer f is reads in
    let head = copy m entry s listed kept count made answer f is reads in
    let on_power = power m entry s listed kept count is.on in
    let src' = (can m entry s listed kept count made answer f is).source in
    let at = address_of_page s.banks.geometry s.banks.banks s.banks.log.bank ((content_at m entry s listed kept count made answer f is reads).0 + 2) in
    let before = take src'.length s.banks.buffer in
    let into = take src'.length made.buffer in
    let not_off = read_off at s.fls.flash f.flash before into answer begins.0 on_power in
    subst (λ (y : BanksState). Follows (record s { fls = f; banks = after_answer y (Copy None) answer })) (sym begins.1)
    (memory_follows s f (after_answer (record s.banks { copies = begun_where answer s.banks.copies head; buffer = made.buffer }) (Copy None) answer) s.content is.on.started on_power (read_bytes at s.fls.flash f.flash before into answer begins.0)
    (λ bytes at' was. content_copied s.banks is.on.banks s.content bytes made.buffer s.operations is.course is.copies head may was answer not_off (λ done. content_fits m entry s listed kept count made answer f is reads (wide done))) follows)
