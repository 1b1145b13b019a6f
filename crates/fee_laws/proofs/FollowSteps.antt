-- The log behind a step.
use Rattle.std.specs.Prelude.{◌⊎◌, nat_lt, IsSome}
use Rattle.std.proofs.Common.{◌≡◌, inl, inr, ◌+◌, zero, suc, true, false, [], Option, Some, None, refl}
use Rattle.std.proofs.lemmas.Bool.{cond_both}
use Rattle.fls_model.specs.declared.flash.FlashAnswer.{FlashAnswer}
use Rattle.fls_model.specs.declared.flash.FlashAnswer.TheVariants.{Done, Failed, Off}
use Rattle.fee_format.specs.declared.rec_head.RecHead.{RecHead}
use Rattle.fee_image.specs.Log.{Log, Writes as LogWrites, Closed as LogClosed}
use Rattle.fee_image.specs.Places.{noted}
use Rattle.fee_image.specs.Step.{is_last, log_behind}
use Rattle.fee_switch_laws.specs.fee_log.declared.tail.Tail.{Tail}
use Rattle.fee_switch_laws.specs.fee_log.declared.tail.Tail.TheVariants.{Open, Writes, Owes, Closed}
use Rattle.fee_switch_laws.specs.fee_log.Log.{LogState, log_of, work_in, is_closed, tail_without, tail_begun}
use Rattle.fee_switch_laws.specs.fee_log.Step.{after_step, given_up}

-- THE RECORD IN WORK
-- none, or the one that was
abbrev Same : Option RecHead → Tail → Type 0
Same was t = (work_in t ≡ None) ⊎ (work_in t ≡ was)

pub work_after : (s : LogState) (t : Tail) (answer : FlashAnswer) → Same (work_in t) (after_step (record s { tail = t }) answer).tail
work_after s Open Done = inl refl
work_after s (Writes h done) Done =
    let log : Log = log_of (record s { tail = Writes h done }) [] in
    cond_both (is_last s.geometry.page h done) (record (log_behind s.geometry.page log h) { places = noted s.numbers s.places s.end h }) (record log { tail = LogWrites h [] (done + 1) })
    (λ (x : Log). Same (Some h) (tail_without x.tail)) (λ e. inl refl) (λ e. inr refl)
work_after s (Owes h None) Done = inl refl
work_after s (Owes h (Some next)) Done = inr refl
work_after s Closed Done = inl refl
work_after s Open Failed = inl refl
work_after s (Writes h done) Failed =
    let log : Log = log_of (record s { tail = Writes h done }) [] in
    cond_both (nat_lt done 2) (record log { tail = LogClosed }) (log_behind s.geometry.page log h) (λ (x : Log). Same (Some h) (tail_without x.tail)) (λ e. inl refl) (λ e. inl refl)
work_after s (Owes h next) Failed = inl refl
work_after s Closed Failed = inl refl
work_after s t Off = inr refl

-- behind a page that is done it isn't closed
pub done_open : (s : LogState) (t : Tail) → IsSome (work_in t) → is_closed (after_step (record s { tail = t }) Done).tail ≡ false
done_open s Open work = cc
done_open s (Writes h done) work =
    let log : Log = log_of (record s { tail = Writes h done }) [] in
    cond_both (is_last s.geometry.page h done) (record (log_behind s.geometry.page log h) { places = noted s.numbers s.places s.end h }) (record log { tail = LogWrites h [] (done + 1) })
    (λ (x : Log). is_closed (tail_without x.tail) ≡ false) (λ e. refl) (λ e. refl)
done_open s (Owes h None) work = cc
done_open s (Owes h (Some next)) work = refl
done_open s Closed work = cc

-- IN MEMORY ALONE
-- a record that is given up
pub none_given : (s : LogState) (t : Tail) → work_in (given_up (record s { tail = t })).tail ≡ None
none_given s Open = refl
none_given s (Writes h zero) = refl
none_given s (Writes h (suc zero)) = refl
none_given s (Writes h (suc (suc done))) = refl
none_given s (Owes h next) = refl
none_given s Closed = refl

-- closes no log
pub given_closed : (s : LogState) (t : Tail) → is_closed (given_up (record s { tail = t })).tail ≡ true → is_closed t ≡ true
given_closed s Open closed = closed
given_closed s (Writes h zero) closed = closed
given_closed s (Writes h (suc zero)) closed = closed
given_closed s (Writes h (suc (suc done))) closed = closed
given_closed s (Owes h next) closed = closed
given_closed s Closed closed = closed

-- and a record that begins opens one
pub begun_open : (t : Tail) (head : RecHead) → is_closed (tail_begun t head) ≡ false
begun_open Open head = refl
begun_open (Writes h done) head = refl
begun_open (Owes h next) head = refl
begun_open Closed head = refl
