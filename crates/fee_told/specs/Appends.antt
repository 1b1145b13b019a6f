-- What an append's turns make of what a device tells.
use Rattle.std.specs.Prelude.{◌≡◌, ◌==◌, ℕ, Bool, true, false, IsTrue, List, length, Some}
use Rattle.nv_base.specs.declared.instance.DeviceNumber.{DeviceNumber}
use Rattle.nv_base.specs.Lengths.{AreLengths}
use Rattle.memif.specs.Told.{Stand, is_open, slot_at, length_of, IfElse}
use Rattle.memif.specs.Marks.{Keeps, SettlesAs}
use Rattle.fls_model.specs.Op.{MayLeave}
use Rattle.fee_format.specs.declared.bank_head.BankHead.{BankHead}
use Rattle.fee_format.specs.declared.rec_head.RecHead.{RecHead}
use Rattle.fee_image.specs.Found.{fits}
use Rattle.fee_image.specs.Image.{Layout, IsLegalLayout, bank_in, image_page}
use Rattle.fee_image.specs.Log.{Tail, Open, Writes, Log}
use Rattle.fee_image.specs.May.{May, held_written}
use Rattle.fee_image.specs.Step.{IsRecord, IsDue, is_last, page_due, bytes_due, log_begun, log_done, log_failed, log_given_up}
use Rattle.fee_image.specs.Banks.{OldBank}
use Rattle.fee_image.specs.BankLaws.{TakesAppends, program_of}
use Rattle.fee_told.specs.Slots.{Memory, IsWorkOf, slots_held}
use Rattle.fee_told.specs.SlotLaws.{IsHeld, GoesOn}
use Rattle.fee_told.specs.Kept.{IsKept, with_log}

-- a device whose old bank takes appends
pub record TakesRecord (l : Layout) (numbers : List (DeviceNumber × ℕ)) (bytes : List ℕ) (m : Memory) (copied : May)
    (k : ℕ) (h : BankHead) (log : Log) : Type 0 where
  pub lengths : AreLengths 0 numbers
  pub legal : IsLegalLayout l
  pub held : IsHeld l numbers bytes m copied
  pub bank : m.old ≡ OldBank k h log
  pub takes : TakesAppends m.phase

-- IN MEMORY ALONE
-- the open job's record begins
abbrev pub RecordsBegin : Type 0
RecordsBegin =
    (l : Layout) (numbers : List (DeviceNumber × ℕ)) (bytes : List ℕ) (m : Memory) (copied : May) (k : ℕ)
    (h : BankHead) (log : Log) (r : RecHead) (body : List ℕ)
    → TakesRecord l numbers bytes m copied k h log → log.tail ≡ Open → IsRecord (bank_in l h.format k) log.end r body
    → IsWorkOf numbers log.places m.stand (Writes r body 0)
    → IsKept l numbers bytes bytes m (with_log m k h (log_begun log r body) m.stand) copied

-- the job is canceled, and its record given up
abbrev pub RecordsGiveUp : Type 0
RecordsGiveUp =
    (l : Layout) (numbers : List (DeviceNumber × ℕ)) (bytes : List ℕ) (m : Memory) (copied : May) (k : ℕ) (h : BankHead) (log : Log) (stand : Stand)
    → TakesRecord l numbers bytes m copied k h log → is_open stand ≡ false
    → IsKept l numbers bytes bytes m (with_log m k h (log_given_up l.page log) stand) copied

-- ITS PAGES
-- the next page of the record, or an owed gate, and whatever is left of it
pub record IsAppending (l : Layout) (numbers : List (DeviceNumber × ℕ)) (old new : List ℕ) (m : Memory) (copied : May)
    (k : ℕ) (h : BankHead) (log : Log) : Type 0 where
  pub record_of : TakesRecord l numbers old m copied k h log
  pub due : IsDue log.tail
  pub size : length (bytes_due l.page log) ≡ l.page
  pub leaves : MayLeave (program_of l k (page_due log) (bytes_due l.page log)) old new

-- it failed, or the power went off
abbrev pub AppendsFail : Type 0
AppendsFail =
    (l : Layout) (numbers : List (DeviceNumber × ℕ)) (old new : List ℕ) (m : Memory) (copied : May) (k : ℕ) (h : BankHead) (log : Log) (stand : Stand)
    → IsAppending l numbers old new m copied k h log → GoesOn m.stand stand
    → IsKept l numbers old new m (with_log m k h (log_failed l.page log) stand) copied

-- the page that is due is a record's last one
abbrev pub commits : ℕ → Tail → Bool
commits p (Writes h body done) = is_last p h done
commits p _ = false

-- it is done, and the record goes on
abbrev pub AppendsGoOn : Type 0
AppendsGoOn =
    (l : Layout) (numbers : List (DeviceNumber × ℕ)) (old new : List ℕ) (m : Memory) (copied : May) (k : ℕ) (h : BankHead) (log : Log)
    → IsAppending l numbers old new m copied k h log → image_page l new k (page_due log) ≡ bytes_due l.page log → commits l.page log.tail ≡ false
    → IsKept l numbers old new m (with_log m k h (log_done l.page numbers log) m.stand) copied

-- it is done, and the record is committed
pub record IsCommitted (l : Layout) (numbers : List (DeviceNumber × ℕ)) (old new : List ℕ) (m t : Memory)
    (copied : May) (r : RecHead) (body : List ℕ) : Type 0 where
  pub held : IsHeld l numbers new t copied
  pub settles : (n : ℕ) → IfElse (n == r.number.0)
      (SettlesAs (held_written r body).mark (slot_at numbers (slots_held l numbers old m) n) (slot_at numbers (slots_held l numbers new t) n))
      (Keeps (slot_at numbers (slots_held l numbers old m) n) (slot_at numbers (slots_held l numbers new t) n))

abbrev pub AppendsCommit : Type 0
AppendsCommit =
    (l : Layout) (numbers : List (DeviceNumber × ℕ)) (old new : List ℕ) (m : Memory) (copied : May) (k : ℕ) (h : BankHead) (log : Log)
    → (r : RecHead) (body : List ℕ) (done size : ℕ) (stand : Stand)
    → IsAppending l numbers old new m copied k h log → image_page l new k (page_due log) ≡ bytes_due l.page log
    → log.tail ≡ Writes r body done → is_last l.page r done ≡ true → length_of numbers r.number.0 ≡ Some size
    → IsTrue (fits r.number.0 size r) → is_open stand ≡ false
    → IsCommitted l numbers old new m (with_log m k h (log_done l.page numbers log) stand) copied r body
