-- The log of one bank, as contracts see it.
use Rattle.std.specs.Prelude.{◌≡◌, ◌<◌, ◌≤◌, ◌+◌, ◌-◌, ◌^◌, ℕ, Bool, true, false, List, length, Option, Some, None, Contains, IfSome}
use Rattle.nv_base.specs.declared.geometry.Geometry.{Geometry}
use Rattle.nv_base.specs.declared.instance.DeviceNumber.{DeviceNumber}
use Rattle.nv_base.specs.Geometry.{IsLegal, HasBanks, pages_of_bank}
use Rattle.nv_base.specs.Lengths.{AreLengths}
use Rattle.fee_format.specs.Formats.{IsFormat, new_format}
use Rattle.fee_format.specs.declared.rec_head.RecHead.{RecHead}
use Rattle.fee_format.specs.declared.rec_head.RecordKind.{RecordKind}
use Rattle.fee_format.specs.declared.rec_head.RecordKind.TheVariants as kind
use Rattle.fee_format.specs.RecHead.{IsLegalRecHead}
use Rattle.fee_image.specs.Bank.{Bank}
use Rattle.nv_base.specs.Held.{more_writes}
use Rattle.fee_image.specs.Image.{layout_of, bank_in}
use Rattle.fee_image.specs.RecordList.{pages_of_head}
use Rattle.fee_image.specs.declared.place.Place.{Place}
use Rattle.fee_image.specs.Log.{Tail as LogTail, Open as LogOpen, Writes as LogWrites, Owes as LogOwes, Closed as LogClosed, Log}
use Rattle.fee_image.specs.Places.{count_at, erased_places}
use Rattle.fee_log.specs.declared.tail.Tail.{Tail}
use Rattle.fee_log.specs.declared.tail.Tail.TheVariants.{Open, Writes, Owes, Closed}
use Rattle.fee_log.specs.Index.{place_in, with_flag, clear_flags, AreCounted, AreWithin}

pub record LogState : Type 0 where
  pub geometry : Geometry
  -- how many banks share the flash
  pub banks : ℕ
  -- the number of this one, from 0
  pub bank : ℕ
  -- how its records are written
  pub format : ℕ
  -- the configured numbers with their lengths, ascending
  pub numbers : List (DeviceNumber × ℕ)
  -- the place and the flag of each number, in that order
  pub places : List Place
  pub flags : List Bool
  -- the page where the next record begins, or the one that is in work or owes its gate
  pub end : ℕ
  pub tail : Tail

-- its bank, in the bytes of the whole flash
abbrev pub bank_of : LogState → Bank
bank_of s = bank_in (layout_of s.geometry s.banks) s.format s.bank

abbrev pub pages_in : LogState → ℕ
pages_in s = pages_of_bank s.geometry s.banks

-- THE LOG THAT IT IS
-- the content of the record in work isn't kept: it is given at each step
abbrev pub tail_with : Tail → List ℕ → LogTail
tail_with Open body = LogOpen
tail_with (Writes head done) body = LogWrites head body done
tail_with (Owes head next) body = LogOwes head
tail_with Closed body = LogClosed

abbrev pub log_of : LogState → List ℕ → Log
log_of s body = record { end = s.end; tail = tail_with s.tail body; places = s.places }

-- the same without that content, where no record waits
abbrev pub tail_without : LogTail → Tail
tail_without LogOpen = Open
tail_without (LogWrites head body done) = Writes head done
tail_without (LogOwes head) = Owes head None
tail_without LogClosed = Closed

abbrev pub with_log : LogState → Log → LogState
with_log s log = record s { end = log.end; tail = tail_without log.tail; places = log.places }

-- THE RECORD IN WORK
-- it is being written, or waits for an owed gate
abbrev pub work_in : Tail → Option RecHead
work_in (Writes head done) = Some head
work_in (Owes head next) = next
work_in _ = None

abbrev pub is_closed : Tail → Bool
is_closed Closed = true
is_closed _ = false

-- the gate of a record that was given up is owed
abbrev pub is_owed : Tail → Bool
is_owed (Owes head next) = true
is_owed _ = false

-- the pages behind the log's end that a record that is in work, waits or owes its gate takes
abbrev pub pages_with : ℕ → Option RecHead → ℕ
pages_with p None = 0
pages_with p (Some head) = pages_of_head p head

abbrev pub taken_in : ℕ → Tail → ℕ
taken_in p (Writes head done) = pages_of_head p head
taken_in p (Owes head next) = pages_of_head p head + pages_with p next
taken_in p _ = 0

-- the free pages: those behind them, none in a closed bank
abbrev pub free_behind : ℕ → ℕ → ℕ → Tail → ℕ
free_behind p pages end Closed = 0
free_behind p pages end tail = pages - (end + taken_in p tail)

abbrev pub free_in : LogState → ℕ
free_in s = free_behind s.geometry.page (pages_in s) s.end s.tail

-- the pages that are still to program: of the record in work, and a gate that it waits for
abbrev pub left_in : ℕ → Tail → ℕ
left_in p (Writes head done) = pages_of_head p head - done
left_in p (Owes head (Some next)) = 1 + pages_of_head p next
left_in p _ = 0

-- WHAT HOLDS OF EACH LOG
-- a record in work isn't whole, and each one lies in the bank
abbrev pub IsTail : ℕ → ℕ → ℕ → Tail → Type 0
IsTail p pages end (Writes head done) = IsLegalRecHead head × (done < pages_of_head p head) × (end + pages_of_head p head ≤ pages)
IsTail p pages end (Owes head next) = (end + (pages_of_head p head + pages_with p next) ≤ pages) × IfSome next IsLegalRecHead
IsTail p pages end _ = Unit {0}

-- records are written in one format alone: a bank of another one is closed
abbrev pub HasFormat : ℕ → Tail → Type 0
HasFormat format Closed = IsFormat format
HasFormat format tail = format ≡ new_format

pub record IsLogState (s : LogState) : Type 0 where
  pub geometry : IsLegal s.geometry
  pub shared : HasBanks s.geometry s.banks
  pub bank : s.bank < s.banks
  pub format : HasFormat s.format s.tail
  pub numbers : AreLengths 0 s.numbers
  pub places : AreWithin s.geometry.page s.end s.numbers s.places
  pub counts : AreCounted s.places
  pub flags : length s.flags ≡ length s.numbers
  pub end_low : 2 ≤ s.end
  pub end_high : s.end ≤ pages_in s
  pub tail : IsTail s.geometry.page (pages_in s) s.end s.tail

-- STARTS
-- the log of an erased bank
abbrev pub erased_state : Geometry → ℕ → ℕ → List (DeviceNumber × ℕ) → LogState
erased_state g banks bank numbers = record {
  geometry = g;
  banks = banks;
  bank = bank;
  format = new_format;
  numbers = numbers;
  places = erased_places numbers;
  flags = clear_flags numbers;
  end = 2;
  tail = Open;
}

-- A RECORD TO APPEND
-- a content has its number's length, and a mark has none
abbrev pub IsLengthFor : RecordKind → ℕ → ℕ → Type 0
IsLengthFor kind.Content got length = got ≡ length
IsLengthFor kind.Invalid got length = got ≡ 0
IsLengthFor kind.Erased got length = got ≡ 0

-- the number is configured, with this length
pub record IsFor (numbers : List (DeviceNumber × ℕ)) (h : RecHead) : Type 0 where
  pub length : ℕ
  pub configured : Contains numbers (h.number, length)
  pub kind : IsLengthFor h.kind h.length length
  pub count : h.count < 2 ^ 32

-- the header of the next record of a number
abbrev pub head_next : LogState → DeviceNumber → RecordKind → ℕ → RecHead
head_next s number kind length = record { number = number; kind = kind; length = length; count = more_writes 1 (count_at (place_in s.numbers s.places number.0)) }

-- behind an owed gate it waits for that gate
abbrev pub tail_begun : Tail → RecHead → Tail
tail_begun (Owes owed next) head = Owes owed (Some head)
tail_begun _ head = Writes head 0

-- it clears its number's flag
abbrev pub begun : LogState → RecHead → LogState
begun s head = record s { tail = tail_begun s.tail head; flags = with_flag s.numbers s.flags head.number.0 false }
