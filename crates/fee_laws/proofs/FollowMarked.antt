-- The header of the record that copies a mark.
use Rattle.std.specs.Prelude.{IsSome, is_some, take}
use Rattle.std.specs.List.{All}
use Rattle.std.proofs.Common.{◌≡◌, ◌<◌, ◌≤◌, ◌++◌, ◌∷◌, ℕ, List, [], length, Option, Some, None, refl, sym, ap, ◌∙◌, subst, arith}
use Rattle.nv_base.specs.Pages.{record_pages_of}
use Rattle.fls_model.specs.declared.flash.FlashAnswer.{FlashAnswer}
use Rattle.fls_model.specs.declared.flash.FlashAnswer.TheVariants.{Done, Failed, Off}
use Rattle.fls_model.specs.Op.{MayLeave}
use Rattle.fls_model.specs.Step.{Leaves}
use Rattle.fls_model.specs.Told.{Change}
use Rattle.fee_format.specs.declared.rec_head.RecHead.{RecHead}
use Rattle.fee_switch_laws.specs.fee_log.declared.tail.Tail.TheVariants.{Open, Writes}
use Rattle.fee_switch_laws.specs.fee_log.Log.{LogState, IsLogState, IsFor, free_in, work_in, begun}
use Rattle.fee_switch_laws.specs.fee_log.Step.{IsPageOf, due_bytes, op_of, after_step}
use Rattle.fee_course.specs.declared.course.Course.{Course}
use Rattle.fee_course.specs.declared.course.Course.TheVariants.{Copy, Head}
use Rattle.fee_course.specs.Copies.{next_copy}
use Rattle.fee_switch_laws.specs.fee_switch.Banks.{BanksState, IsBanksState, IsLogOf, after_answer}
use Rattle.fee_switch_laws.proofs.RoomAppends.{work_begun}
use Rattle.fee_laws.specs.Inside.{body_of}
use Rattle.fee_laws.specs.Follows.{FollowsBytes, FollowsTarget, FollowsBanks, FollowsNext}
use Rattle.fee_switch_laws.specs.Shown.{layout_in}
use Rattle.fee_image.proofs.Frames.{SameOthers}
use Rattle.promise_device.specs.Wear.{bank_of_op}
use Rattle.fee_laws.proofs.FollowOperations.{AreOf}
use Rattle.fee_laws.proofs.FollowAppends.{bank_is}
use Rattle.fee_laws.proofs.FollowBanks.{with_copies}
use Rattle.fee_laws.proofs.FollowTargets.{builds, again}
use Rattle.fee_laws.proofs.FollowCopies.{page_small, apart, page_goes_on, begun_course, begun_tail, begun_holds, begun_state}

-- the target's log may take this record
pub record MayCopy (s : BanksState) (head : RecHead) : Type 0 where
  pub tail : s.copies.tail ≡ Open
  pub configured : IsFor s.copies.numbers head
  pub room : record_pages_of head.length s.copies.geometry.page ≤ free_in s.copies

module _ (s : BanksState) (is : IsBanksState s) (content old new : List ℕ) (xs : List Change) (x : Change) (course : s.course ≡ Some (Copy None)) (copies : IsLogState s.copies) (head : RecHead) (none : head.length ≡ 0) (may : MayCopy s head) (leaves : MayLeave (op_of (begun s.copies head) []) old new) (op : x.op ≡ op_of (begun s.copies head) []) (follows : FollowsBytes s content xs old) where
  abbrev c : Course
  c = Copy None

  abbrev k : LogState
  k = begun s.copies head

  abbrev body : List ℕ
  body = body_of (work_in k.tail) s.buffer

  abbrev before : List ℕ
  before = body_of (work_in s.copies.tail) s.buffer

  no_bytes : body_of (Some head) s.buffer ≡ []
  no_bytes = ap (λ (n : ℕ). take n s.buffer) none

  fits : length (body_of (Some head) s.buffer) ≡ head.length
  fits = ap length no_bytes ∙ sym none

  work : work_in k.tail ≡ Some head
  work = work_begun s.copies.tail head

  body_none : body ≡ []
  body_none = ap (λ (o : Option RecHead). body_of o s.buffer) work ∙ no_bytes

  some : IsSome (work_in k.tail)
  some = ap is_some work

  target : FollowsTarget s c old
  target = (subst (λ (o : Option Course). FollowsBanks s o old) course follows.banks).1

  tail : k.tail ≡ Writes head 0
  tail = begun_tail s.copies copies may.tail head may.configured may.room before s.buffer old fits target.1.holds

  state : IsLogState k
  state = begun_state s.copies copies may.tail head may.configured may.room before s.buffer old fits target.1.holds

  of : IsLogOf s.geometry s.banks k
  of = record { shape = is.copies.shape; shared = is.copies.shared }

  page : IsPageOf k.geometry.page (due_bytes k body)
  page = page_small k head 0 body tail state (subst (All (λ (b : ℕ). b < 256)) (sym body_none) (λ i d lt. absurd (omega arith)))

  programs : MayLeave (op_of k body) old new
  programs = subst (λ (b : List ℕ). MayLeave (op_of k b) old new) (sym body_none) leaves

  other : SameOthers (layout_in s) old new s.target
  other = apart s is content old new xs x c course k of is.target_log state some page programs follows

  size : length new ≡ length old
  size = leaves.0.size

  is_of : AreOf s.geometry s.banks s.target (x ∷ [])
  is_of = (ap (bank_of_op s.geometry s.banks) op ∙ bank_is s.geometry s.banks k of is.legal state some [] ∙ is.target_log, tt)

  pub mark_copied : (answer : FlashAnswer) → (answer ≡ Off → ⊥) → Leaves (op_of k []) answer old new → FollowsBytes (after_answer (record s { copies = after_step k answer }) c answer) content (xs ++ x ∷ []) new
  mark_copied Done on left =
      let done = subst (λ (b : List ℕ). Leaves (op_of k b) Done old new) (sym body_none) left in
      let both = page_goes_on s is content old new xs x c course k of is.target_log state some page programs follows target.0
      (begun_holds s.copies copies may.tail head may.configured may.room before s.buffer old fits target.1.holds) target.1.placed done in
      let goes = λ (next : Course) (holds : FollowsTarget (record s { course = Some next; copies = after_step k Done }) next new) (behind : FollowsNext (record s { course = Some next; copies = after_step k Done }) next (xs ++ x ∷ []) new).
      builds s is content old new xs (x ∷ []) c course is_of size other follows s.log.flags next (after_step k Done) s.buffer holds behind in
      begun_course s.geometry.page (next_copy s.log.numbers s.log.places s.log.flags) (λ (next : Course). record s { course = Some next; copies = after_step k Done }) (λ (t : BanksState). FollowsBytes t content (xs ++ x ∷ []) new)
      (λ o. goes (Copy o) (both.0, with_copies (record s { copies = after_step k Done }) s.log (Some (Copy o)) new both.1) tt) (goes Head (both.0, with_copies (record s { copies = after_step k Done }) s.log (Some Head) new both.1) tt)
  mark_copied Failed on left = again s is content old new xs (x ∷ []) c course is_of size other follows s.buffer
  mark_copied Off on left = absurd (on refl)
