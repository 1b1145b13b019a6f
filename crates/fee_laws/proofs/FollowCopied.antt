-- A page of the copy in work.
use Rattle.std.specs.Prelude.{IsSome, is_some}
use Rattle.std.specs.List.{All}
use Rattle.std.proofs.Common.{◌≡◌, ◌<◌, ◌++◌, ◌∷◌, ℕ, List, [], length, Option, Some, refl, sym, ap, ◌∙◌, subst}
use Rattle.std.proofs.lemmas.List.Elements.{All-take}
use Rattle.fls_model.specs.declared.flash.FlashAnswer.{FlashAnswer}
use Rattle.fls_model.specs.declared.flash.FlashAnswer.TheVariants.{Done, Failed, Off}
use Rattle.fls_model.specs.Op.{MayLeave}
use Rattle.fls_model.specs.Step.{Leaves}
use Rattle.fls_model.specs.Told.{Change}
use Rattle.fee_format.specs.declared.rec_head.RecHead.{RecHead}
use Rattle.fee_switch_laws.specs.fee_log.declared.tail.Tail.TheVariants.{Writes}
use Rattle.fee_switch_laws.specs.fee_log.Log.{LogState, IsLogState, work_in}
use Rattle.fee_switch_laws.specs.fee_log.Step.{IsPageOf, due_bytes, op_of, after_step}
use Rattle.fee_course.specs.declared.course.Copying.{Copying}
use Rattle.fee_course.specs.declared.course.Course.{Course}
use Rattle.fee_course.specs.declared.course.Course.TheVariants.{Copy, Head}
use Rattle.fee_course.specs.Course.{flag_due}
use Rattle.fee_switch_laws.specs.fee_switch.Banks.{BanksState, IsBanksState, flagged_by, advanced_with, after_answer}
use Rattle.fee_laws.specs.Inside.{body_of}
use Rattle.fee_laws.specs.Follows.{FollowsBytes, FollowsTarget, FollowsNext}
use Rattle.fee_switch_laws.specs.Shown.{layout_in}
use Rattle.fee_image.proofs.Frames.{SameOthers}
use Rattle.promise_device.specs.Wear.{bank_of_op}
use Rattle.fee_laws.proofs.FollowOperations.{AreOf}
use Rattle.fee_laws.proofs.FollowAppends.{bank_is}
use Rattle.fee_laws.proofs.FollowBanks.{with_copies}
use Rattle.fee_laws.proofs.FollowTargets.{was, builds, again}
use Rattle.fee_laws.proofs.FollowCopies.{page_small, apart, long, page_goes_on, flagged_is, paged}

module _ (s : BanksState) (is : IsBanksState s) (content old new : List ℕ) (xs : List Change) (x : Change) (w : Copying) (course : s.course ≡ Some (Copy (Some w))) (copies : IsLogState s.copies) (h : RecHead) (done : ℕ) (tail : s.copies.tail ≡ Writes h done) (bytes : All (λ b. b < 256) s.buffer) (leaves : MayLeave (op_of s.copies (body_of (work_in s.copies.tail) s.buffer)) old new) (op : x.op ≡ op_of s.copies (body_of (work_in s.copies.tail) s.buffer)) (follows : FollowsBytes s content xs old) where
  abbrev c : Course
  c = Copy (Some w)

  abbrev body : List ℕ
  body = body_of (work_in s.copies.tail) s.buffer

  work : work_in s.copies.tail ≡ Some h
  work = ap work_in tail

  some : IsSome (work_in s.copies.tail)
  some = ap is_some work

  small : All (λ b. b < 256) body
  small = subst (λ (o : Option RecHead). All (λ (b : ℕ). b < 256) (body_of o s.buffer)) (sym work) (All-take (λ (b : ℕ). b < 256) h.length s.buffer bytes)

  page : IsPageOf s.copies.geometry.page (due_bytes s.copies body)
  page = page_small s.copies h done body tail copies small

  other : SameOthers (layout_in s) old new s.target
  other = apart s is content old new xs x c course s.copies is.copies is.target_log copies some page leaves follows

  size : length new ≡ length old
  size = long s is content old new xs x c course s.copies is.copies is.target_log copies some page leaves follows

  of : AreOf s.geometry s.banks s.target (x ∷ [])
  of = (ap (bank_of_op s.geometry s.banks) op ∙ bank_is s.geometry s.banks s.copies is.copies is.legal copies some body ∙ is.target_log, tt)

  pub page_copied : (answer : FlashAnswer) → (answer ≡ Off → ⊥) → Leaves (op_of s.copies body) answer old new → FollowsBytes (after_answer (record s { copies = after_step s.copies answer }) c answer) content (xs ++ x ∷ []) new
  page_copied Done on left =
      let target = (was s is content old new xs (x ∷ []) c course of size other follows).1 in
      let both = page_goes_on s is content old new xs x c course s.copies is.copies is.target_log copies some page leaves follows target.0 target.1.holds target.1.placed left in
      let made : BanksState = record s { copies = after_step s.copies Done } in
      let flags = (flagged_by s.log (flag_due c)).flags in
      let goes = λ (next : Course) (holds : FollowsTarget (record s { course = Some next; log = record s.log { flags = flags }; copies = after_step s.copies Done }) next new)
      (behind : FollowsNext (record s { course = Some next; log = record s.log { flags = flags }; copies = after_step s.copies Done }) next (xs ++ x ∷ []) new).
      builds s is content old new xs (x ∷ []) c course of size other follows flags next (after_step s.copies Done) s.buffer holds behind in
      subst (λ (log : LogState). FollowsBytes (advanced_with made c log) content (xs ++ x ∷ []) new) (sym (flagged_is s.log (flag_due c)))
      (paged s.log.numbers s.log.places flags w (λ (next : Course). record s { course = Some next; log = record s.log { flags = flags }; copies = after_step s.copies Done }) (λ (t : BanksState). FollowsBytes t content (xs ++ x ∷ []) new)
      (λ o. goes (Copy o) (both.0, with_copies made (record s.log { flags = flags }) (Some (Copy o)) new both.1) tt)
      (goes Head (both.0, with_copies made (record s.log { flags = flags }) (Some Head) new both.1) tt))
  page_copied Failed on left = again s is content old new xs (x ∷ []) c course of size other follows s.buffer
  page_copied Off on left = absurd (on refl)
