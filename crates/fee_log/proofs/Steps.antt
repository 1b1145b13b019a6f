-- What the bytes hold after a step.
use Rattle.std.specs.Prelude.{if◌then◌else◌, nat_lt}
use Rattle.std.proofs.Common.{◌≡◌, ℕ, suc, ◌<◌, ◌≤◌, ◌+◌, ◌*◌, Bool, true, false, List, [], length, Some, None, refl, sym, subst, arith}
use Rattle.std.proofs.Math.Nat.{mul-le-mul_right, mul_comm}
use Rattle.fls_model.specs.declared.flash.FlashAnswer.{FlashAnswer}
use Rattle.fls_model.specs.declared.flash.FlashAnswer.TheVariants.{Done, Failed, Off}
use Rattle.fls_model.specs.Op.{MayLeave}
use Rattle.fls_model.specs.Step.{Leaves}
use Rattle.fee_format.specs.Pages.{blank_page}
use Rattle.fee_image.specs.Append.{Touches}
use Rattle.fee_image.specs.Bank.{page_of}
use Rattle.fee_image.specs.RecordList.{pages_of_head}
use Rattle.fee_image.specs.Log.{Log, Writes as LogWrites, Closed as LogClosed, HoldsLog, IsOwing}
use Rattle.fee_image.specs.May.{May}
use Rattle.fee_image.specs.Places.{noted}
use Rattle.fee_image.specs.Step.{IsDue, IsRecord, page_due, log_behind, log_done, log_failed, is_last}
use Rattle.fee_log.specs.declared.tail.Tail.{Tail}
use Rattle.fee_log.specs.declared.tail.Tail.TheVariants.{Open, Writes, Owes, Closed}
use Rattle.fee_log.specs.Laws.{HoldsState, MayFollow, IsDueOn, CutsHold, AnswersHold, PagesStand, may_after}
use Rattle.fee_log.specs.Log.{LogState, IsLogState, IsTail, bank_of, pages_in, log_of, with_log}
use Rattle.fee_log.specs.Step.{due_page, due_bytes, op_of, log_after, after_step}
use Rattle.fee_image.proofs.Logs.{records_begin}
use Rattle.fee_image.proofs.Ranges.{programs_stand, programs_touch_their_bank}
use Rattle.fee_image.proofs.Steps.{done_steps_hold, failed_steps_hold, next_is_fresh}
use Rattle.fee_log.proofs.Follows.{steps_follow, work_is_due}

-- a page of a bank lies in the bytes
page_inside : (B p banks k q n : ℕ) → B * p * banks ≤ n → k < banks → q < B → (k * B + q) * p + p ≤ n
page_inside B p banks k q n size low lt =
    let one = mul-le-mul_right p (let t : suc q ≤ B = omega arith in t) in
    let two = mul-le-mul_right (B * p) (let t : suc k ≤ banks = omega arith in t) in
    let turn : B * p * banks ≡ banks * (B * p) = mul_comm (B * p) banks in
    let a : suc q * p ≡ q * p + p = omega arith in
    let b : suc k * (B * p) ≡ k * (B * p) + B * p = omega arith in
    let c : (k * B + q) * p ≡ k * (B * p) + q * p = grind arith in
    omega (arith, size, one, two, turn, a, b, c)

-- NO RECORD WAITS BEHIND A STEP
picked : (s : LogState) (may : May) (body : List ℕ) (b : Bool) (x y : Log) → MayFollow may (with_log s x).tail body
    → MayFollow may (with_log s y).tail body → MayFollow may (with_log s (if b then x else y)).tail body
picked s may body true x y first second = first
picked s may body false x y first second = second

module _ (s : LogState) (body : List ℕ) (may : May) where
  abbrev at : Tail → LogState
  at tail = record s { tail = tail }

  done_waits : (tail : Tail) → MayFollow may (after_step (at tail) Done).tail body
  done_waits Open = tt
  done_waits (Writes h k) =
      let l = log_of (at (Writes h k)) [] in
      picked s may body (is_last s.geometry.page h k) (record (log_behind s.geometry.page l h)
      { places = noted s.numbers s.places s.end h }) (record l { tail = LogWrites h [] (k + 1) }) tt tt
  done_waits (Owes h None) = tt
  done_waits (Owes h (Some next)) = tt
  done_waits Closed = tt

  failed_waits : (tail : Tail) → MayFollow may (after_step (at tail) Failed).tail body
  failed_waits Open = tt
  failed_waits (Writes h k) =
      let l = log_of (at (Writes h k)) [] in
      picked s may body (nat_lt k 2) (record l { tail = LogClosed }) (log_behind s.geometry.page l h) tt tt
  failed_waits (Owes h next) = tt
  failed_waits Closed = tt

-- a record that waited for an owed gate begins behind it
followed_holds : (s : LogState) (body old new : List ℕ) (may : May) (tail : Tail) → IsLogState s
    → IsTail s.geometry.page (pages_in s) s.end tail → MayFollow may tail body
    → HoldsLog (bank_of s) s.numbers old may (log_of (record s { tail = tail }) body)
    → HoldsLog (bank_of s) s.numbers new (may_after (record s { tail = tail }) body Done may)
    (log_done s.geometry.page s.numbers (log_of (record s { tail = tail }) body))
    → HoldsLog (bank_of s) s.numbers new (may_after (record s { tail = tail }) body Done may) (log_after (record s { tail = tail }) body Done)
followed_holds s body old new may Open sound lies follows before holds = holds
followed_holds s body old new may (Writes h k) sound lies follows before holds = holds
followed_holds s body old new may (Owes h None) sound lies follows before holds = holds
followed_holds s body old new may (Owes h (Some next)) sound lies follows before holds =
    let owing : IsOwing (bank_of s) old s.end h = before.tail in
    let is : IsRecord (bank_of s) (s.end + pages_of_head s.geometry.page h) next body = record
    { format = owing.staged.format; legal = lies.1; size = follows.0; room = omega (arith, lies.0) } in
    records_begin (bank_of s) s.numbers new may (log_behind s.geometry.page (log_of (record s { tail = Owes h (Some next) }) body) h) next body holds refl is follows.1
followed_holds s body old new may Closed sound lies follows before holds = holds

module _
    (s : LogState)
    (body old new : List ℕ) (may : May) (due : IsDueOn s body old may) where
  abbrev log : Log
  log = log_of s body

  is : IsDue log.tail × (due_page s ≡ page_due log)
  is = work_is_due s body due.work

  touched : MayLeave (op_of s body) old new → Touches (bank_of s) (page_due log) old new
  touched leaves =
      subst (λ (q : ℕ). Touches (bank_of s) q old new) is.1 (programs_touch_their_bank (bank_of s) old new (due_bytes s body) (due_page s) due.page.size leaves)

  pub cuts : MayLeave (op_of s body) old new → HoldsLog (bank_of s) s.numbers new may (log_failed s.geometry.page log)
  cuts leaves =
      failed_steps_hold (bank_of s) s.numbers old new may log due.state.geometry.page_low due.holds.holds is.0 (touched leaves)

  pub stands : Leaves (op_of s body) Done old new → page_of (bank_of s) new (due_page s) ≡ due_bytes s body
  stands leaves =
      let fresh = next_is_fresh (bank_of s) s.numbers old may log due.holds.holds is.0 in
      let q = due_page s in
      let lt : q < pages_in s = subst (λ (q : ℕ). q < pages_in s) (sym is.1) fresh.high in
      let blank : page_of (bank_of s) old q ≡ blank_page s.geometry.page = subst
      (λ (q : ℕ). page_of (bank_of s) old q ≡ blank_page s.geometry.page) (sym is.1) fresh.blank in
      let inside = page_inside (pages_in s) s.geometry.page s.banks s.bank q (length old) due.holds.size due.state.bank lt in
      subst (λ (bytes : List ℕ). page_of (bank_of s) bytes q ≡ due_bytes s body) (sym leaves)
      (programs_stand (bank_of s) old (due_bytes s body) q due.page.size due.page.bytes inside blank).0

  done_holds : MayLeave (op_of s body) old new → Leaves (op_of s body) Done old new
      → HoldsLog (bank_of s) s.numbers new (may_after s body Done may) (log_done s.geometry.page s.numbers log)
  done_holds leaves stood =
      let page : page_of (bank_of s) new (page_due log) ≡ due_bytes s body = subst
      (λ (q : ℕ). page_of (bank_of s) new q ≡ due_bytes s body) is.1 (stands stood) in
      done_steps_hold (bank_of s) s.numbers old new may log due.state.geometry.page_low due.holds.holds is.0 (touched leaves) page

  size : MayLeave (op_of s body) old new → pages_in s * s.geometry.page * s.banks ≤ length new
  size leaves = omega (arith, due.holds.size, leaves.0.size)

  pub answers : (answer : FlashAnswer) → (answer ≡ Off → ⊥) → MayLeave (op_of s body) old new
      → Leaves (op_of s body) answer old new → HoldsState (after_step s answer) body new (may_after s body answer may)
  answers Done on leaves stood =
      let both = followed_holds s body old new may s.tail due.state due.state.tail due.holds.follows due.holds.holds (done_holds leaves stood) in
      record {
        size = size leaves;
        holds =
            subst (λ (l : Log). HoldsLog (bank_of s) s.numbers new (may_after s body Done may) l) (sym (steps_follow s body Done)) both;
        follows = done_waits s body (may_after s body Done may) s.tail;
      }
  answers Failed on leaves also = record {
    size = size leaves;
    holds = subst (λ (l : Log). HoldsLog (bank_of s) s.numbers new may l) (sym (steps_follow s body Failed)) (cuts leaves);
    follows = failed_waits s body may s.tail;
  }
  answers Off on leaves also = absurd (on refl)

pub cuts_hold : CutsHold
cuts_hold s body old new may due leaves =
    cuts s body old new may due leaves

pub answers_hold : AnswersHold
answers_hold s body old new may answer due on leaves left =
    answers s body old new may due answer on leaves left

pub pages_stand : PagesStand
pages_stand s body old new may due left =
    stands s body old new may due left
