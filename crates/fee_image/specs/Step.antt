-- What becomes of a log in memory.
use Rattle.std.specs.Prelude.{◌≡◌, ◌≤◌, ◌+◌, ◌==◌, nat_lt, if◌then◌else◌, ℕ, zero, suc, Bool, List, [], length}
use Rattle.nv_base.specs.declared.instance.DeviceNumber.{DeviceNumber}
use Rattle.fee_format.specs.declared.rec_head.RecHead.{RecHead}
use Rattle.fee_format.specs.Formats.{new_format}
use Rattle.fee_format.specs.Pages.{gate_page}
use Rattle.fee_format.specs.RecHead.{IsLegalRecHead}
use Rattle.fee_format.specs.RecordPages.{record_page}
use Rattle.fee_image.specs.Bank.{Bank}
use Rattle.fee_image.specs.RecordList.{pages_of_head}
use Rattle.fee_image.specs.May.{May, settling}
use Rattle.fee_image.specs.Places.{noted}
use Rattle.fee_image.specs.Log.{Tail, Open, Writes, Owes, Closed, Log}

-- A RECORD BEGINS
-- a record that may begin at a page: it is whole, and lies within the bank
pub record IsRecord (b : Bank) (end : ℕ) (h : RecHead) (body : List ℕ) : Type 0 where
  pub format : b.format ≡ new_format
  pub legal : IsLegalRecHead h
  pub size : length body ≡ h.length
  pub room : end + pages_of_head b.page h ≤ b.pages

abbrev pub log_begun : Log → RecHead → List ℕ → Log
log_begun log h body = record log { tail = Writes h body 0 }

-- THE NEXT PAGE
-- a page is to be programmed: a record is in work or owes its gate
abbrev pub IsDue : Tail → Type 0
IsDue Open = ⊥
IsDue (Writes h body done) = Unit {0}
IsDue (Owes h) = Unit {0}
IsDue Closed = ⊥

-- how many pages of that record are done
abbrev pub done_of : Tail → ℕ
done_of (Writes h body done) = done
done_of (Owes h) = 1
done_of _ = 0

-- the page of the bank that is to be programmed
abbrev pub page_due : Log → ℕ
page_due log = log.end + done_of log.tail

-- and with what: a record's page, or the gate that is owed
abbrev pub bytes_of_tail : ℕ → Tail → List ℕ
bytes_of_tail p (Writes h body done) = record_page p h body done
bytes_of_tail p (Owes h) = gate_page p
bytes_of_tail p _ = []

abbrev pub bytes_due : ℕ → Log → List ℕ
bytes_due p log = bytes_of_tail p log.tail

-- that page is a record's last one, its commit gate
abbrev pub is_last : ℕ → RecHead → ℕ → Bool
is_last p h done = done + 1 == pages_of_head p h

-- AFTER IT
-- the next record begins behind the one with this header
abbrev pub log_behind : ℕ → Log → RecHead → Log
log_behind p log h = record log { end = log.end + pages_of_head p h; tail = Open }

-- done: one more page of the record; at its last one it is the place of its number, and the next record may begin; behind
-- an owed gate so too
abbrev pub done_with : ℕ → List (DeviceNumber × ℕ) → Log → Tail → Log
done_with p numbers log (Writes h body done) =
    if is_last p h done then record (log_behind p log h) { places = noted numbers log.places log.end h } else record log { tail = Writes h body (done + 1) }
done_with p numbers log (Owes h) = log_behind p log h
done_with p numbers log _ = log

abbrev pub log_done : ℕ → List (DeviceNumber × ℕ) → Log → Log
log_done p numbers log = done_with p numbers log log.tail

-- what may be found then: after a record's last page its mark alone
abbrev pub may_with : ℕ → May → Tail → May
may_with p may (Writes h body done) = if is_last p h done then settling may h body else may
may_with p may _ = may

abbrev pub may_done : ℕ → May → Log → May
may_done p may log = may_with p may log.tail

-- failed: a record's header, its header gate and an owed gate close the bank; behind its header gate a record is given up
abbrev pub failed_with : ℕ → Log → Tail → Log
failed_with p log (Writes h body done) = if nat_lt done 2 then record log { tail = Closed } else log_behind p log h
failed_with p log (Owes h) = record log { tail = Closed }
failed_with p log _ = log

abbrev pub log_failed : ℕ → Log → Log
log_failed p log = failed_with p log log.tail

-- given up without a program: nothing stands before the header, the gate is owed behind it, and behind that gate the
-- next record begins behind this one
abbrev pub given_up_with : ℕ → Log → Tail → Log
given_up_with p log (Writes h body zero) = record log { tail = Open }
given_up_with p log (Writes h body (suc zero)) = record log { tail = Owes h }
given_up_with p log (Writes h body (suc (suc done))) = log_behind p log h
given_up_with p log _ = log

abbrev pub log_given_up : ℕ → Log → Log
log_given_up p log = given_up_with p log log.tail
