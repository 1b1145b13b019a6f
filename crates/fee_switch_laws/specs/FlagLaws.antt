-- Laws of the copies of a switch and of the appends beside it, for the layers above.
use Rattle.std.specs.Prelude.{◌≡◌, ◌<◌, ◌≤◌, ℕ, Bool, false, List, length, Some, None, slice_get}
use Rattle.nv_base.specs.declared.instance.DeviceNumber.{DeviceNumber}
use Rattle.fee_format.specs.Formats.{new_format}
use Rattle.nv_base.specs.Held.{Held}
use Rattle.nv_base.specs.Lengths.{AreLengths}
use Rattle.fls_model.specs.Op.{MayLeave}
use Rattle.fee_format.specs.declared.bank_head.BankHead.{BankHead}
use Rattle.fee_format.specs.declared.rec_head.RecHead.{RecHead}
use Rattle.fee_image.specs.Image.{Layout, IsLegalLayout, bank_in, image_page}
use Rattle.fee_image.specs.declared.place.Place.{Place}
use Rattle.fee_image.specs.LogLaws.{erased_log}
use Rattle.fee_image.specs.Log.{Log, Open}
use Rattle.fee_image.specs.May.{IsWider, MayCommit}
use Rattle.fee_image.specs.Step.{IsRecord, IsDue, page_due, bytes_due, log_begun, log_done, may_done}
use Rattle.fee_image.specs.Banks.{OldBank, Erasing, Copying, Banks, Holds}
use Rattle.fee_image.specs.Copies.{Flag, copied_of, may_of, cleared, Each}
use Rattle.fee_image.specs.BankLaws.{program_of, TakesAppends}
use Rattle.fee_course.specs.declared.copies.Source.{Source}
use Rattle.fee_course.specs.Copies.{next_copy}
use Rattle.fee_switch_laws.specs.Flags.{flagged, AreFlagsOf, IsOpenFor, all_clear, IsCopyOf, flags_copied, IsAppendTo, flags_appended}

-- THE CHOICE
-- a copy is left to make of the number that is copied next
abbrev pub NextIsOpen : Type 0
NextIsOpen =
    (ns : List (DeviceNumber × ℕ)) (places : List Place) (copied : List Bool) (fs : List Flag) (s : Source) (n : DeviceNumber × ℕ)
    → AreLengths 0 ns → AreFlagsOf ns places copied fs → next_copy ns places copied ≡ Some s → slice_get ns s.index ≡ Some n → IsOpenFor n.0.0 fs

-- where none is left, the target shows nothing but what may be found
abbrev pub SealsMayBegin : Type 0
SealsMayBegin =
    (ns : List (DeviceNumber × ℕ)) (places : List Place) (copied : List Bool) (fs : List Flag) (doubts : ℕ → List Held)
    → AreFlagsOf ns places copied fs → next_copy ns places copied ≡ None → IsWider (copied_of fs) (may_of fs doubts)

-- THE COPIES
-- all sectors are erased, and no flag is set: the copies start with an empty log
abbrev pub CopiesStart : Type 0
CopiesStart =
    (l : Layout) (ns : List (DeviceNumber × ℕ)) (bytes : List ℕ) (s : Banks) (n : ℕ) (fs : List Flag)
    → IsLegalLayout l → Holds l ns bytes (flagged s fs) → s.phase ≡ Erasing n → l.pages ≤ n → Each (λ f. f.copied ≡ false) fs
    → Holds l ns bytes (flagged (record s { phase = Copying (erased_log ns) }) fs)

-- the next copy begins
abbrev pub CopiesMayBegin : Type 0
CopiesMayBegin =
    (l : Layout) (ns : List (DeviceNumber × ℕ)) (bytes : List ℕ) (s : Banks) (log : Log) (h : RecHead) (body : List ℕ) (fs : List Flag)
    → Holds l ns bytes (flagged s fs) → s.phase ≡ Copying log → log.tail ≡ Open → IsRecord (bank_in l new_format s.target) log.end h body → IsOpenFor h.number.0 fs
    → Holds l ns bytes (flagged (record s { phase = Copying (log_begun log h body) }) fs)

-- a page of it is done, the last one with its flag
abbrev pub CopiedPagesHold : Type 0
CopiedPagesHold =
    (l : Layout) (ns : List (DeviceNumber × ℕ)) (old new : List ℕ) (s : Banks) (log : Log) (sets : Bool) (fs : List Flag)
    → IsLegalLayout l → Holds l ns old (flagged s fs) → s.phase ≡ Copying log → IsCopyOf sets log.tail fs
    → IsDue log.tail → length (bytes_due l.page log) ≡ l.page → MayLeave (program_of l s.target (page_due log) (bytes_due l.page log)) old new
    → image_page l new s.target (page_due log) ≡ bytes_due l.page log
    → Holds l ns new (flagged (record s { phase = Copying (log_done l.page ns log) }) (flags_copied l.page sets log.tail fs))

-- whatever a program of the target's head or of a page of a copy leaves, failed or cut: the first erase comes, with no flag
abbrev pub FailedCopiesHold : Type 0
FailedCopiesHold =
    (l : Layout) (ns : List (DeviceNumber × ℕ)) (old new page : List ℕ) (s : Banks) (q : ℕ) (log : Log) (fs : List Flag)
    → IsLegalLayout l → Holds l ns old (flagged s fs) → s.phase ≡ Copying log
    → length page ≡ l.page → q < l.pages → (q ≡ 1 → ⊥) → MayLeave (program_of l s.target q page) old new
    → Holds l ns new (flagged (record s { phase = Erasing 0 }) (all_clear fs)) × Each (λ f. f.copied ≡ false) (all_clear fs)

-- THE APPENDS
-- a flag is cleared
abbrev pub FlagsMayClear : Type 0
FlagsMayClear =
    (l : Layout) (ns : List (DeviceNumber × ℕ)) (bytes : List ℕ) (s : Banks) (number : ℕ) (fs : List Flag)
    → Holds l ns bytes (flagged s fs) → TakesAppends s.phase → Holds l ns bytes (flagged s (cleared number fs))

-- a record begins in the old bank, and clears its number's flag
abbrev pub AppendsMayBegin : Type 0
AppendsMayBegin =
    (l : Layout) (ns : List (DeviceNumber × ℕ)) (bytes : List ℕ) (s : Banks) (k : ℕ) (h : BankHead) (log : Log) (head : RecHead) (body : List ℕ) (fs : List Flag)
    → Holds l ns bytes (flagged s fs) → s.old ≡ OldBank k h log → TakesAppends s.phase
    → log.tail ≡ Open → IsRecord (bank_in l h.format k) log.end head body → MayCommit s.may head body
    → Holds l ns bytes (flagged (record s { old = OldBank k h (log_begun log head body) }) (cleared head.number.0 fs))

-- a page of it is done, the last one with its mark settled
abbrev pub AppendedPagesHold : Type 0
AppendedPagesHold =
    (l : Layout) (ns : List (DeviceNumber × ℕ)) (old new : List ℕ) (s : Banks) (k : ℕ) (h : BankHead) (log : Log) (fs : List Flag)
    → IsLegalLayout l → Holds l ns old (flagged s fs) → s.old ≡ OldBank k h log → TakesAppends s.phase → IsAppendTo log.tail fs
    → IsDue log.tail → length (bytes_due l.page log) ≡ l.page → MayLeave (program_of l k (page_due log) (bytes_due l.page log)) old new
    → image_page l new k (page_due log) ≡ bytes_due l.page log
    → Holds l ns new (flagged (record s { old = OldBank k h (log_done l.page ns log); may = may_done l.page s.may log }) (flags_appended l.page log.tail fs))
