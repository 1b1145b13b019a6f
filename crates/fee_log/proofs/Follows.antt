-- The log that a state is, after each change.
use Rattle.std.specs.Prelude.{if◌then◌else◌, nat_lt}
use Rattle.std.proofs.Common.{◌≡◌, ℕ, ◌+◌, zero, suc, Bool, true, false, List, [], Some, None, IsSome, refl}
use Rattle.fls_model.specs.declared.flash.FlashAnswer.{FlashAnswer}
use Rattle.fls_model.specs.declared.flash.FlashAnswer.TheVariants.{Done, Failed, Off}
use Rattle.fee_format.specs.declared.rec_head.RecHead.{RecHead}
use Rattle.fee_image.specs.Log.{Log, Writes as LogWrites, Closed as LogClosed}
use Rattle.fee_image.specs.Places.{noted}
use Rattle.fee_image.specs.Step.{IsDue, page_due, is_last, log_behind, log_given_up}
use Rattle.fee_log.specs.declared.tail.Tail.{Tail}
use Rattle.fee_log.specs.declared.tail.Tail.TheVariants.{Open, Writes, Owes, Closed}
use Rattle.fee_log.specs.Laws.{StepsFollow, GivenUpFollows, BeginsOpen, BeginsOwing, WorkIsDue}
use Rattle.fee_log.specs.Log.{LogState, log_of, with_log, work_in}
use Rattle.fee_log.specs.Step.{log_after, after_step, given_up, due_page}

-- one of two logs
picked : (s : LogState) (body : List ℕ) (b : Bool) (x y x' y' : Log) → log_of (with_log s x) body ≡ x'
    → log_of (with_log s y) body ≡ y' → log_of (with_log s (if b then x else y)) body ≡ (if b then x' else y')
picked s body true x y x' y' first second = first
picked s body false x y x' y' first second = second

module _ (s : LogState) (body : List ℕ) where
  abbrev at : Tail → LogState
  at tail = record s { tail = tail }

  abbrev p : ℕ
  p = s.geometry.page

  -- the log behind a record that is committed, and one page further in it
  abbrev committed : RecHead → ℕ → List ℕ → Log
  committed h k content =
      record (log_behind p (log_of (at (Writes h k)) content) h) { places = noted s.numbers s.places s.end h }

  abbrev further : RecHead → ℕ → List ℕ → Log
  further h k content = record (log_of (at (Writes h k)) content) { tail = LogWrites h content (k + 1) }

  abbrev closed : Tail → List ℕ → Log
  closed tail content = record (log_of (at tail) content) { tail = LogClosed }

  follows : (tail : Tail) (answer : FlashAnswer)
      → log_of (after_step (at tail) answer) body ≡ log_after (at tail) body answer
  follows tail Off = refl
  follows Open Done = refl
  follows Open Failed = refl
  follows (Writes h k) Done =
      picked (at (Writes h k)) body (is_last p h k) (committed h k []) (further h k []) (committed h k body) (further h k body) refl refl
  follows (Writes h k) Failed =
      picked (at (Writes h k)) body (nat_lt k 2) (closed (Writes h k) [])
      (log_behind p (log_of (at (Writes h k)) []) h) (closed (Writes h k) body) (log_behind p (log_of (at (Writes h k)) body) h) refl refl
  follows (Owes h None) Done = refl
  follows (Owes h (Some next)) Done = refl
  follows (Owes h next) Failed = refl
  follows Closed Done = refl
  follows Closed Failed = refl

  given : (tail : Tail) → log_of (given_up (at tail)) body ≡ log_given_up p (log_of (at tail) body)
  given Open = refl
  given (Writes h zero) = refl
  given (Writes h (suc zero)) = refl
  given (Writes h (suc (suc k))) = refl
  given (Owes h next) = refl
  given Closed = refl

  due : (tail : Tail) → IsSome (work_in tail)
      → IsDue (log_of (at tail) body).tail × (due_page (at tail) ≡ page_due (log_of (at tail) body))
  due Open work = cc
  due (Writes h k) work = (tt, refl)
  due (Owes h next) work = (tt, refl)
  due Closed work = cc

pub steps_follow : StepsFollow
steps_follow s body answer = follows s body s.tail answer

pub given_up_follows : GivenUpFollows
given_up_follows s body = given s body s.tail

pub begins_open : BeginsOpen
begins_open s head body is = rw is refl

pub begins_owing : BeginsOwing
begins_owing s owed head body is = rw is refl

pub work_is_due : WorkIsDue
work_is_due s body work = due s body s.tail work
