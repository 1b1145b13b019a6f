-- What a start-up loads.
use Rattle.std.specs.Prelude.{◌≡◌, ◌<◌, ◌≤◌, ◌+◌, ℕ, true, List, Option, Some, None, IfSome}
use Rattle.fls_model.specs.Told.{Told}
use Rattle.fee_format.specs.declared.bank_head.BankHead.{BankHead}
use Rattle.fee_image.specs.Image.{Layout, bank_in, active_below}
use Rattle.fee_image.specs.RecordList.{IsClosed, end_of}
use Rattle.fee_image.specs.LogLaws.{loaded_log, IsLoadedTail}
use Rattle.fee_log.specs.Index.{clear_flags}
use Rattle.fee_log.specs.Load.{IsLoad, IsLoading}
use Rattle.fee_log.specs.Log.{LogState, log_of, tail_with, work_in, is_closed}
use Rattle.fee_switch.specs.declared.active.ActiveBank.{ActiveBank}
use Rattle.fee_switch.specs.declared.loading.Coming.{Coming}
use Rattle.fee_switch.specs.Active.{active_shown}

-- a log of the same numbers, of a bank of the same flash
pub record IsSameShape (old new : LogState) : Type 0 where
  pub geometry : new.geometry ≡ old.geometry
  pub banks : new.banks ≡ old.banks
  pub numbers : new.numbers ≡ old.numbers

-- it is the log that is loaded from bank k, which stands with this head, and no flag is set; where it is closed, the bank is
pub record IsLoadedAs (l : Layout) (bytes : List ℕ) (k : ℕ) (h : BankHead) (log : LogState) : Type 0 where
  pub bank : log.bank ≡ k
  pub format : log.format ≡ h.format
  pub flags : log.flags ≡ clear_flags log.numbers
  pub loaded : (body : List ℕ) → log_of log body ≡ loaded_log (bank_in l h.format k) log.numbers bytes (tail_with log.tail body)
  pub tail : (body : List ℕ) → IsLoadedTail (bank_in l h.format k) bytes (tail_with log.tail body)
  pub closed : is_closed log.tail ≡ true → (let b = bank_in l h.format k in IsClosed b bytes (end_of b bytes))

-- of the first banks, so many, this one comes first, and this is its log
abbrev pub AreTaken : Layout → List ℕ → ℕ → Option ActiveBank → LogState → Type 0
AreTaken l bytes n first log = (active_shown first ≡ active_below l bytes n) × IfSome first (λ a. IsLoadedAs l bytes a.bank a.head log)

-- one more bank is taken
abbrev pub TakesNext : Told → Layout → ℕ → Option ActiveBank → LogState → Option ActiveBank → LogState → Type 0
TakesNext told l n first log first' log' = IfSome told.bytes (λ b. AreTaken l b.now n first log → AreTaken l b.now (n + 1) first' log')

-- it is a log of that bank, in its format; no flag is set, and no record in work
pub record IsLogIn (banks : ℕ) (a : ActiveBank) (log : LogState) : Type 0 where
  pub inside : a.bank < banks
  pub bank : log.bank ≡ a.bank
  pub format : log.format ≡ a.head.format
  pub clear : log.flags ≡ clear_flags log.numbers
  pub idle : work_in log.tail ≡ None

abbrev pub IsLogAt : ℕ → Option ActiveBank → LogState → Type 0
IsLogAt banks first log = IfSome first (λ a. IsLogIn banks a log)

-- WHILE A BANK IS READ
-- it doesn't come first, or it does, and its log is loaded as far as its pages were seen
abbrev pub IsComing : Layout → List ℕ → ℕ → Option ActiveBank → Option Coming → LogState → Type 0
IsComing l bytes k first None log = active_shown first ≡ active_below l bytes k → active_shown first ≡ active_below l bytes (k + 1)
IsComing l bytes k first (Some c) log =
    (active_shown first ≡ active_below l bytes k → active_below l bytes (k + 1) ≡ Some (k, c.head)) × IsLoading (bank_in l c.head.format k) bytes log c.load

-- behind further pages of it, which of the banks comes first is as before
abbrev pub GoesOn : Layout → List ℕ → ℕ → Option Coming → LogState → Option Coming → LogState → Type 0
GoesOn l bytes k old log new log' = (first : Option ActiveBank) → IsComing l bytes k first old log → IsComing l bytes k first new log'

-- the log of bank k, with its head's format, as far as a page
pub record HasComing (k from : ℕ) (log : LogState) (c : Coming) : Type 0 where
  pub load : IsLoad log c.load
  pub next : from ≤ c.load.next
  pub bank : log.bank ≡ k
  pub format : log.format ≡ c.head.format
  pub clear : log.flags ≡ clear_flags log.numbers

-- of the banks before it this one comes first, with this log where it stays the first
abbrev pub IsFirst : Layout → List ℕ → ℕ → Option ActiveBank → Option Coming → LogState → Type 0
IsFirst l bytes k first coming log = (active_shown first ≡ active_below l bytes k) × (coming ≡ None → IfSome first (λ a. IsLoadedAs l bytes a.bank a.head log))
