-- The read of the content that is copied next.
use Rattle.std.proofs.Common.{◌≡◌, ◌++◌, ℕ, List, [], length, Option, Some, None, refl, subst}
use Rattle.std.proofs.lemmas.List.{append-nil}
use Rattle.fls_model.specs.declared.flash.FlashAnswer.{FlashAnswer}
use Rattle.fls_model.specs.declared.flash.FlashAnswer.TheVariants.{Done, Failed, Off}
use Rattle.fls_model.specs.Told.{Change}
use Rattle.fee_format.specs.declared.rec_head.RecHead.{RecHead}
use Rattle.fee_switch_laws.specs.fee_log.Log.{IsLogState, work_in, begun}
use Rattle.fee_course.specs.declared.course.Course.{Course}
use Rattle.fee_course.specs.declared.course.Course.TheVariants.{Copy, Head}
use Rattle.fee_course.specs.Copies.{next_copy}
use Rattle.fee_switch_laws.specs.fee_switch.Banks.{BanksState, IsBanksState, after_answer}
use Rattle.fee_switch_laws.specs.fee_switch.Copy.{begun_where}
use Rattle.fee_laws.specs.Inside.{body_of}
use Rattle.fee_laws.specs.Follows.{FollowsBytes, FollowsCopies, FollowsTarget, FollowsBanks, FollowsNext}
use Rattle.fee_switch_laws.specs.Shown.{layout_in}
use Rattle.fee_image.proofs.Frames.{SameOthers}
use Rattle.fee_laws.proofs.FollowBanks.{with_copies}
use Rattle.fee_laws.proofs.FollowTargets.{builds, again}
use Rattle.fee_laws.proofs.FollowCopies.{begun_course, begun_holds}
use Rattle.fee_laws.proofs.FollowMarked.{MayCopy}

-- nothing changes on the flash
module _ (s : BanksState) (is : IsBanksState s) (content bytes buffer : List ℕ) (xs : List Change) (course : s.course ≡ Some (Copy None)) (copies : IsLogState s.copies) (head : RecHead) (may : MayCopy s head) (follows : FollowsBytes s content xs bytes) where
  abbrev c : Course
  c = Copy None

  abbrev before : List ℕ
  before = body_of (work_in s.copies.tail) s.buffer

  target : FollowsTarget s c bytes
  target = (subst (λ (o : Option Course). FollowsBanks s o bytes) course follows.banks).1

  same : SameOthers (layout_in s) bytes bytes s.target
  same j differs q inside = refl

  pub content_copied : (answer : FlashAnswer) → (answer ≡ Off → ⊥) → (answer ≡ Done → length (body_of (Some head) buffer) ≡ head.length) → FollowsBytes (after_answer (record s { copies = begun_where answer s.copies head; buffer = buffer }) c answer) content xs bytes
  content_copied Done on fits =
      let made : FollowsCopies (record s { copies = begun s.copies head; buffer = buffer }) bytes = record { holds = begun_holds s.copies copies may.tail head may.configured may.room before buffer bytes (fits refl) target.1.holds; placed = target.1.placed } in
      let both = λ (next : Course). with_copies (record s { copies = begun s.copies head; buffer = buffer }) s.log (Some next) bytes made in
      let goes = λ (next : Course) (holds : FollowsTarget (record s { course = Some next; copies = begun s.copies head; buffer = buffer }) next bytes) (behind : FollowsNext (record s { course = Some next; copies = begun s.copies head; buffer = buffer }) next (xs ++ []) bytes).
      builds s is content bytes bytes xs [] c course tt refl same follows s.log.flags next (begun s.copies head) buffer holds behind in
      let t = λ (next : Course). record s { course = Some next; copies = begun s.copies head; buffer = buffer } in
      subst (λ (ys : List Change). FollowsBytes (after_answer (record s { copies = begun s.copies head; buffer = buffer }) c Done) content ys bytes) (append-nil xs)
      (begun_course s.geometry.page (next_copy s.log.numbers s.log.places s.log.flags) t (λ (y : BanksState). FollowsBytes y content (xs ++ []) bytes) (λ o. goes (Copy o) (target.0, both (Copy o)) tt) (goes Head (target.0, both Head) tt))
  content_copied Failed on fits =
      subst (λ (ys : List Change). FollowsBytes (after_answer (record s { copies = s.copies; buffer = buffer }) c Failed) content ys bytes) (append-nil xs) (again s is content bytes bytes xs [] c course tt refl same follows buffer)
  content_copied Off on fits = absurd (on refl)
