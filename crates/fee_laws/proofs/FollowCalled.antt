-- What a device knows of its room, its start-ups, and its calls without a changing operation.
use Rattle.std.specs.Prelude.{IfSome, is_some, if◌then◌else◌, take}
use Rattle.std.proofs.Common.{◌≡◌, ◌≢◌, ◌⊎◌, inl, inr, ◌≤◌, ◌+◌, ℕ, List, length, Option, Some, None, refl, sym, ap, ◌∙◌, subst, arith}
use Rattle.std.proofs.lemmas.List.{length-take-le}
use Rattle.std.proofs.lemmas.Option.{slice_get-get_or}
use Rattle.nv_base.specs.Geometry.{address_of_page}
use Rattle.nv_base.specs.Lengths.{AreLengths}
use Rattle.nv_base.specs.Pages.{record_pages_of}
use Rattle.nv_base.specs.declared.geometry.Geometry.{Geometry}
use Rattle.nv_base.specs.declared.instance.DeviceNumber.{DeviceNumber}
use Rattle.nv_base.specs.declared.job.DeviceOp.{DeviceOp}
use Rattle.nv_base.specs.declared.job.DeviceOp.TheVariants.{Read, Write, Invalidate, Erase}
use Rattle.nv_base.proofs.Places.{numbers_are_in_bounds}
use Rattle.fls_model.specs.Attach.{AreBytesOf}
use Rattle.fls_model.specs.Told.{Told, ToldBytes, Change}
use Rattle.fee_format.specs.declared.rec_head.RecHead.{RecHead}
use Rattle.fee_switch_laws.proofs.Soundness.{length_within}
use Rattle.fee_switch_laws.specs.fee_log.Log.{IsFor, work_in, free_in}
use Rattle.fee_switch_laws.specs.fee_log.Step.{given_up}
use Rattle.fee_switch_laws.specs.fee_switch.declared.active.ActiveBank.{ActiveBank}
use Rattle.fee_switch_laws.specs.fee_switch.Banks.{BanksState, FindsActive, LoadsActive, append_begun, begun_again}
use Rattle.fee_course.specs.declared.course.Course.TheVariants as course
use Rattle.fee_switch_laws.specs.Space.{free_pages}
use Rattle.promise_device.specs.Making.{Making}
use Rattle.fee_told.proofs.ToldBytes.{now_at}
use Rattle.fee_laws.specs.declared.job.FeeJob.{FeeJob}
use Rattle.fee_laws.specs.Inside.{Parts, body_of}
use Rattle.fee_laws.specs.Record.{IsJobOf, IsLengthOf, IsInWork, head_of}
use Rattle.fee_laws.proofs.Heads.{not_read}
use Rattle.fee_laws.specs.Work.{pages_of_op}
use Rattle.fee_laws.specs.Turn.{IsOn}
use Rattle.fee_laws.specs.Worn.{KnowsRoom}
use Rattle.fee_laws.specs.Begins.{MayBegin}
use Rattle.fee_laws.specs.Follows.{FollowsLog, FollowsBytes}
use Rattle.fee_laws.specs.FollowLaws.{RoomIsKnown, UnstartedFollows, StartsFollow, SameFollow, FailedFollow, GivenUpFollows, BegunFollows, SwitchingFollows, ReadsFollow}
use Rattle.fee_laws.proofs.FollowBegins.{MayBeginIn, each, record_begins, record_given, switch_begins}
use Rattle.fee_laws.proofs.FollowStarts.{found_follows}
use Rattle.fee_laws.proofs.FollowKnown.{knows}
use Rattle.fee_laws.proofs.FollowLifts.{memory_follows, read_bytes}
use Rattle.fee_laws.proofs.Before.{each_now, power}
use Rattle.fee_laws.proofs.Begun.{room_is}

-- WHAT IS KNOWN
pub room_is_known : RoomIsKnown
room_is_known m entry s listed kept count on idle shut follows =
    each_now s.fls.flash.bytes (KnowsRoom m entry s) (λ bytes at.
    knows m entry s listed kept count on bytes (now_at s.fls.flash.bytes (FollowsBytes s.banks s.content s.operations) bytes at (follows on.started (power m entry s listed kept count on))) idle shut)

-- STARTS
pub unstarted_follows : UnstartedFollows
unstarted_follows s unstarted = λ started on. absurd (cc (unstarted, started))

pub starts_follow : StartsFollow
starts_follow s is = λ started on.
    each_now s.fls.flash.bytes (FollowsBytes s.banks s.content s.operations) (λ bytes at.
    found_follows s.banks is.state bytes (now_at s.fls.flash.bytes (AreBytesOf s.banks.geometry) bytes at is.bytes) s.content s.operations is.shut
    (now_at s.fls.flash.bytes (λ (x : List ℕ). FindsActive x s.banks) bytes at is.finds) (now_at s.fls.flash.bytes (λ (x : List ℕ). LoadsActive x s.banks) bytes at is.loads))

-- THE SAME BANKS
-- another content while no record is in work
same_content : (s : BanksState) (content after : List ℕ) → (after ≡ content) ⊎ (work_in s.log.tail ≡ None) → body_of (work_in s.log.tail) content ≡ body_of (work_in s.log.tail) after
same_content s content after (inl same) = ap (body_of (work_in s.log.tail)) (sym same)
same_content s content after (inr idle) = ap (λ (o : Option RecHead). body_of o content) idle ∙ sym (ap (λ (o : Option RecHead). body_of o after) idle)

content_follows : (s : BanksState) (content after bytes : List ℕ) (xs : List Change) → (after ≡ content) ⊎ (work_in s.log.tail ≡ None) → FollowsBytes s content xs bytes → FollowsBytes s after xs bytes
content_follows s content after bytes xs same follows = record {
  log = each s.active (λ a. FollowsLog s.course s.log (body_of (work_in s.log.tail) content) xs bytes) (λ a. FollowsLog s.course s.log (body_of (work_in s.log.tail) after) xs bytes)
      (λ a at log. subst (λ (body : List ℕ). FollowsLog s.course s.log body xs bytes) (same_content s content after same) log) follows.log;
  banks = follows.banks;
  next = follows.next;
}

pub same_follow : SameFollow
same_follow s t is follows = λ started on.
    subst (λ (b : BanksState). IfSome t.fls.flash.bytes (λ y. FollowsBytes b t.content t.operations y.now)) (sym is.banks)
    (subst (λ (xs : List Change). IfSome t.fls.flash.bytes (λ y. FollowsBytes s.banks t.content xs y.now)) (sym is.operations)
    (subst (λ (o : Option ToldBytes). IfSome o (λ y. FollowsBytes s.banks t.content s.operations y.now)) (sym is.bytes)
    (each_now s.fls.flash.bytes (FollowsBytes s.banks t.content s.operations) (λ bytes at.
    content_follows s.banks s.content t.content bytes s.operations is.content (now_at s.fls.flash.bytes (FollowsBytes s.banks s.content s.operations) bytes at (follows (is.started started) (is.on on)))))))

pub failed_follow : FailedFollow
failed_follow s None follows = follows
failed_follow s (Some j) follows = follows

-- IN MEMORY
pub given_up_follows : GivenUpFollows
given_up_follows s state follows = λ started on.
    each_now s.fls.flash.bytes (FollowsBytes (record s.banks { log = given_up s.banks.log }) s.content s.operations) (λ bytes at.
    record_given s.banks s.content bytes s.operations state (now_at s.fls.flash.bytes (FollowsBytes s.banks s.content s.operations) bytes at (follows started on)))

-- a record that begins has room, and its content
has_pages : (p : ℕ) (op : DeviceOp) (length of : ℕ) → op ≢ Read → IsLengthOf op length of → record_pages_of length p ≤ pages_of_op p op length
has_pages p Read length of writes fits = absurd (writes refl)
has_pages p Write length of writes fits = omega arith
has_pages p Invalidate length of writes fits = subst (λ (n : ℕ). record_pages_of n p ≤ record_pages_of 0 p) (sym fits) (omega arith)
has_pages p Erase length of writes fits = subst (λ (n : ℕ). record_pages_of n p ≤ record_pages_of 0 p) (sym fits) (omega arith)

few_for : (numbers : List (DeviceNumber × ℕ)) (h : RecHead) → AreLengths 0 numbers → IsFor numbers h → h.length ≤ 4096
few_for numbers h all is =
    let x : DeviceNumber × ℕ = (h.number, is.length) in
    let up = numbers_are_in_bounds 0 numbers is.configured.0 x all (slice_get-get_or numbers is.configured.0 x is.configured.1 ∙ ap Some is.configured.2) in
    omega (arith, length_within h.kind h.length is.length is.kind, up.3)

room_by : (o : Option ActiveBank) (pages free : ℕ) → pages ≤ (if is_some o then free else 0) → IfSome o (λ a. pages ≤ free)
room_by None pages free less = tt
room_by (Some a) pages free less = less

may_begin : (m : Making) (entry : Told) (s : Parts) (listed : List (DeviceNumber × ℕ)) (kept count : ℕ) (j : FeeJob) → IsOn m entry s listed kept count → (may : MayBegin m s j) → MayBeginIn s.banks (head_of s.banks.log may.kind j) s.content
may_begin m entry s listed kept count j on may =
    let at_work = on.sound.works on.started in
    let job : IsJobOf m.numbers j = subst (λ (o : Option FeeJob). IfSome o (IsJobOf m.numbers)) may.job at_work.job in
    let p = s.banks.geometry.page in
    let pages = has_pages p j.op j.length job.length (not_read j.op may.kind may.writes) job.fits in
    let free = room_is j.urgent (pages_of_op p j.op j.length) m.reserve (free_pages s.banks) may.room in
    let few = few_for s.banks.log.numbers (head_of s.banks.log may.kind j) on.log.numbers may.configured in
    record {
      idle = may.idle;
      configured = may.configured;
      room = room_by s.banks.active (record_pages_of j.length s.banks.log.geometry.page) (free_in s.banks.log)
          (subst (λ (g : Geometry). record_pages_of j.length g.page ≤ free_pages s.banks) (sym on.banks.log.shape) (omega (arith, pages, free)));
      size = length-take-le j.length s.content (let room = on.sound.made_for.room in omega (arith, few, room));
    }

pub begun_follows : BegunFollows
begun_follows m entry s listed kept count j on may follows = λ started power'.
    each_now s.fls.flash.bytes (FollowsBytes (append_begun s.banks (head_of s.banks.log may.kind j)) s.content s.operations) (λ bytes at.
    record_begins s.banks (head_of s.banks.log may.kind j) s.content bytes s.operations on.log (may_begin m entry s listed kept count j on may) (now_at s.fls.flash.bytes (FollowsBytes s.banks s.content s.operations) bytes at (follows started power')))

pub switching_follows : SwitchingFollows
switching_follows m entry s listed kept count j on may follows = λ started power'.
    each_now s.fls.flash.bytes (FollowsBytes (begun_again s.banks (course.Erase 0)) s.content s.operations) (λ bytes at.
    switch_begins s.banks bytes s.content s.operations may.shut (now_at s.fls.flash.bytes (FollowsBytes s.banks s.content s.operations) bytes at (follows started power')))

-- A READ
no_work : (s : Parts) (j : FeeJob) (o : Option RecHead) → s.job ≡ Some j → j.op ≡ Read → IfSome o (IsInWork s.banks s.job) → o ≡ None
no_work s j None job reads work = refl
no_work s j (Some h) job reads work = absurd (not_read work.of.op h.kind work.writes (let same : work.of ≡ j = (let a = work.is_open in cc (a, job)) in ap (λ (x : FeeJob). x.op) same ∙ reads))

pub reads_follow : ReadsFollow
reads_follow m entry s listed kept count j at writes content answer f reading asked follows =
    let on = reading.on in
    let idle = no_work s j (work_in s.banks.log.tail) reading.job reading.op (on.sound.works on.started).work in
    let address = address_of_page s.banks.log.geometry s.banks.log.banks s.banks.log.bank (at + 2) in
    memory_follows s f s.banks content on.started (power m entry s listed kept count on) (read_bytes address s.fls.flash f.flash (take j.length s.content) (take j.length content) answer asked.read)
    (λ bytes told was. content_follows s.banks s.content content bytes s.operations (inr idle) was) follows
