-- One step of an append.
use Rattle.std.specs.Prelude.{◌≡◌, ◌<◌, ℕ, Bool, true, false, List, [], length, Some}
use Rattle.std.specs.List.{All}
use Rattle.nv_base.specs.Geometry.{address_of_page}
use Rattle.fls_model.specs.declared.flash.FlashAnswer.{FlashAnswer}
use Rattle.fls_model.specs.declared.flash.FlashAnswer.TheVariants.{Done, Failed as FlashFailed, Off as FlashOff}
use Rattle.fls_model.specs.Op.{Op}
use Rattle.fls_model.specs.Step.{programs}
use Rattle.fee_image.specs.Log.{Log}
use Rattle.fee_image.specs.Step.{log_begun, page_due, bytes_due, is_last, log_done, log_failed, log_given_up}
use Rattle.fee_log.specs.declared.log_step.LogStep.{LogStep}
use Rattle.fee_log.specs.declared.log_step.LogStep.TheVariants.{More, Committed, Failed, Off}
use Rattle.fee_log.specs.declared.tail.Tail.{Tail}
use Rattle.fee_log.specs.declared.tail.Tail.TheVariants.{Writes, Owes}
use Rattle.fee_log.specs.Log.{LogState, log_of, with_log}

-- THE PAGE
abbrev pub due_page : LogState → ℕ
due_page s = page_due (log_of s [])

-- what it gets, where this is the content of the record in work
abbrev pub due_bytes : LogState → List ℕ → List ℕ
due_bytes s body = bytes_due s.geometry.page (log_of s body)

-- the operation of the next step: the program of the page that is due
abbrev pub op_of : LogState → List ℕ → Op
op_of s body = programs (address_of_page s.geometry s.banks s.bank (due_page s)) (due_bytes s body)

-- whole pages of bytes
pub record IsPageOf (p : ℕ) (page : List ℕ) : Type 0 where
  pub size : length page ≡ p
  pub bytes : All (λ (x : ℕ). x < 256) page

-- THE ANSWER
-- the flash's answer to it
abbrev pub answer_of : LogStep → FlashAnswer
answer_of More = Done
answer_of Committed = Done
answer_of Failed = FlashFailed
answer_of Off = FlashOff

-- the page is a record's last one, its commit gate
abbrev pub commits : ℕ → Tail → Bool
commits p (Writes head done) = is_last p head done
commits p _ = false

-- `Committed` is the answer of a record's last page, `More` of any other
abbrev pub IsStepAt : LogState → LogStep → Type 0
IsStepAt s More = commits s.geometry.page s.tail ≡ false
IsStepAt s Committed = commits s.geometry.page s.tail ≡ true
IsStepAt s _ = Unit {0}

-- THE LOG AFTER IT
-- a record that waited for an owed gate begins behind it
abbrev pub followed : Tail → List ℕ → Log → Log
followed (Owes owed (Some head)) body log = log_begun log head body
followed tail body log = log

abbrev pub log_after : LogState → List ℕ → FlashAnswer → Log
log_after s body Done = followed s.tail body (log_done s.geometry.page s.numbers (log_of s body))
log_after s body FlashFailed = log_failed s.geometry.page (log_of s body)
log_after s body FlashOff = log_of s body

abbrev pub after_step : LogState → FlashAnswer → LogState
after_step s Done = with_log s (log_after s [] Done)
after_step s FlashFailed = with_log s (log_after s [] FlashFailed)
after_step s FlashOff = s

-- after a record is given up: what waits for an owed gate waits no more
abbrev pub given_up : LogState → LogState
given_up s = with_log s (log_given_up s.geometry.page (log_of s []))
