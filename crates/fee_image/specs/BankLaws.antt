-- Laws of banks and of a switch: what a step leaves, done, failed or cut.
use Rattle.std.specs.Prelude.{◌≡◌, ◌<◌, ◌≤◌, ◌+◌, ◌*◌, ◌^◌, ℕ, List, [], ◌∷◌, length, Some, None, slice_get}
use Rattle.nv_base.specs.declared.geometry.Geometry.{Geometry}
use Rattle.nv_base.specs.declared.instance.DeviceNumber.{DeviceNumber}
use Rattle.fee_format.specs.Formats.{new_format}
use Rattle.nv_base.specs.Geometry.{IsLegal, HasBanks, sectors_of_bank, pages_of_sector}
use Rattle.fls_model.specs.Op.{Op, MayLeave, Program, Erase, after_op}
use Rattle.fee_format.specs.declared.bank_head.BankHead.{BankHead}
use Rattle.fee_format.specs.BankHead.{bank_head_page}
use Rattle.fee_format.specs.Pages.{gate_page}
use Rattle.nv_base.specs.Held.{Held, never_written}
use Rattle.fee_image.specs.Image.{Layout, IsLegalLayout, layout_of, bank_in, image_page, active_of, found_held}
pub use Rattle.fee_image.specs.Laws.{GatesStand}
use Rattle.fee_image.specs.Laws.{place_in_image, place_of_sector}
use Rattle.fee_image.specs.Sound.{IsSoundImage}
use Rattle.fee_image.specs.LogLaws.{loaded_log, IsLoadedTail, erased_log, IsPlaced}
use Rattle.fee_image.specs.Log.{Tail, Log, HoldsLog}
use Rattle.fee_image.specs.May.{May, IsAmong, IsWider}
use Rattle.fee_image.specs.Step.{IsDue, page_due, bytes_due, log_done, may_done, log_failed}
use Rattle.fee_image.specs.Banks.{Old, NoBank, OldBank, Phase, Idle, Erasing, Copying, Sealing, Banks, Holds, ImageShows, generation_of, next_head}

-- a program of page q of bank k
abbrev pub program_of : Layout → ℕ → ℕ → List ℕ → Op
program_of l k q page = Program (place_in_image l k q) page

-- WHAT MAY BE FOUND
-- what a start-up would find may be found, in each phase
abbrev pub BanksShow : Type 0
BanksShow =
    (l : Layout) (numbers : List (DeviceNumber × ℕ)) (bytes : List ℕ) (s : Banks)
    → IsLegalLayout l → Holds l numbers bytes s → ImageShows l bytes s.may

-- BEGINNING
-- a bank that isn't the old one
abbrev pub IsOther : Old → ℕ → Type 0
IsOther NoBank t = Unit {0}
IsOther (OldBank k h log) t = t ≡ k → ⊥

abbrev pub SwitchesBegin : Type 0
SwitchesBegin =
    (l : Layout) (numbers : List (DeviceNumber × ℕ)) (bytes : List ℕ) (s : Banks) (t : ℕ) (copied : May)
    → Holds l numbers bytes s → s.phase ≡ Idle → t < l.banks → IsOther s.old t
    → Holds l numbers bytes (record s { target = t; phase = Erasing 0; copied = copied })

-- ERASES
abbrev pub erase_of : Geometry → ℕ → ℕ → ℕ → Op
erase_of g banks k sector = Erase (place_of_sector g banks k sector) g.sector

-- whatever an erase of the next sector of a sound image leaves, each retry begins from what held before
abbrev pub ErasesFail : Type 0
ErasesFail =
    (g : Geometry) (banks : ℕ) (numbers : List (DeviceNumber × ℕ)) (old new : List ℕ) (s : Banks) (sector : ℕ)
    → IsLegal g → HasBanks g banks → IsSoundImage (layout_of g banks) old → Holds (layout_of g banks) numbers old s → s.phase ≡ Erasing (sector * pages_of_sector g)
    → sector < sectors_of_bank g banks → MayLeave (erase_of g banks s.target sector) old new → Holds (layout_of g banks) numbers new s

-- done: its pages are blank
abbrev pub ErasesDone : Type 0
ErasesDone =
    (g : Geometry) (banks : ℕ) (numbers : List (DeviceNumber × ℕ)) (old new : List ℕ) (s : Banks) (sector : ℕ)
    → IsLegal g → HasBanks g banks → IsSoundImage (layout_of g banks) old → Holds (layout_of g banks) numbers old s → s.phase ≡ Erasing (sector * pages_of_sector g)
    → sector < sectors_of_bank g banks → MayLeave (erase_of g banks s.target sector) old new → new ≡ after_op (erase_of g banks s.target sector) old
    → Holds (layout_of g banks) numbers new (record s { phase = Erasing ((sector + 1) * pages_of_sector g) })

-- all are: the copies begin with an empty log
abbrev pub CopiesBegin : Type 0
CopiesBegin =
    (l : Layout) (numbers : List (DeviceNumber × ℕ)) (bytes : List ℕ) (s : Banks) (n : ℕ)
    → IsLegalLayout l → Holds l numbers bytes s → s.phase ≡ Erasing n → l.pages ≤ n → ((number length : ℕ) → IsAmong (s.copied number length) never_written)
    → Holds l numbers bytes (record s { phase = Copying (erased_log numbers) })

-- THE LOGS
-- phases in which an append is taken
abbrev pub TakesAppends : Phase → Type 0
TakesAppends (Sealing log) = ⊥
TakesAppends _ = Unit {0}

-- the old bank's log goes on, in memory or over a program of one of its pages that was done, failed or cut: where its bank
-- holds the log that follows, the banks do
abbrev pub OldLogsGoOn : Type 0
OldLogsGoOn =
    (l : Layout) (numbers : List (DeviceNumber × ℕ)) (old new page : List ℕ) (s : Banks) (k q : ℕ) (h : BankHead) (log next : Log) (may : May)
    → IsLegalLayout l → Holds l numbers old s → s.old ≡ OldBank k h log → TakesAppends s.phase
    → length page ≡ l.page → 2 ≤ q → q < l.pages → MayLeave (program_of l k q page) old new → HoldsLog (bank_in l h.format k) numbers new may next
    → Holds l numbers new (record s { old = OldBank k h next; may = may })

abbrev pub OldLogsChange : Type 0
OldLogsChange =
    (l : Layout) (numbers : List (DeviceNumber × ℕ)) (bytes : List ℕ) (s : Banks) (k : ℕ) (h : BankHead) (log next : Log) (may : May)
    → Holds l numbers bytes s → s.old ≡ OldBank k h log → TakesAppends s.phase → HoldsLog (bank_in l h.format k) numbers bytes may next
    → Holds l numbers bytes (record s { old = OldBank k h next; may = may })

-- so does the target's, while a done program copies
abbrev pub CopiesGoOn : Type 0
CopiesGoOn =
    (l : Layout) (numbers : List (DeviceNumber × ℕ)) (old new page : List ℕ) (s : Banks) (q : ℕ) (log next : Log) (copied : May)
    → IsLegalLayout l → Holds l numbers old s → s.phase ≡ Copying log
    → length page ≡ l.page → 2 ≤ q → q < l.pages → MayLeave (program_of l s.target q page) old new → HoldsLog (bank_in l new_format s.target) numbers new copied next
    → Holds l numbers new (record s { phase = Copying next; copied = copied })

abbrev pub CopiesChange : Type 0
CopiesChange =
    (l : Layout) (numbers : List (DeviceNumber × ℕ)) (bytes : List ℕ) (s : Banks) (log next : Log) (copied : May)
    → Holds l numbers bytes s → s.phase ≡ Copying log → HoldsLog (bank_in l new_format s.target) numbers bytes copied next
    → Holds l numbers bytes (record s { phase = Copying next; copied = copied })

-- a page of an append, or an owed gate, that failed or was cut
abbrev pub AppendsFail : Type 0
AppendsFail =
    (l : Layout) (numbers : List (DeviceNumber × ℕ)) (old new : List ℕ) (s : Banks) (k : ℕ) (h : BankHead) (log : Log)
    → IsLegalLayout l → Holds l numbers old s → s.old ≡ OldBank k h log → TakesAppends s.phase
    → IsDue log.tail → length (bytes_due l.page log) ≡ l.page → MayLeave (program_of l k (page_due log) (bytes_due l.page log)) old new
    → Holds l numbers new (record s { old = OldBank k h (log_failed l.page log) })

-- and that is done: at its last page a record's mark alone may be found
abbrev pub AppendsDone : Type 0
AppendsDone =
    (l : Layout) (numbers : List (DeviceNumber × ℕ)) (old new : List ℕ) (s : Banks) (k : ℕ) (h : BankHead) (log : Log)
    → IsLegalLayout l → Holds l numbers old s → s.old ≡ OldBank k h log → TakesAppends s.phase
    → IsDue log.tail → length (bytes_due l.page log) ≡ l.page → MayLeave (program_of l k (page_due log) (bytes_due l.page log)) old new
    → image_page l new k (page_due log) ≡ bytes_due l.page log
    → Holds l numbers new (record s { old = OldBank k h (log_done l.page numbers log); may = may_done l.page s.may log })

-- a page of a copy that is done
abbrev pub CopiesDone : Type 0
CopiesDone =
    (l : Layout) (numbers : List (DeviceNumber × ℕ)) (old new : List ℕ) (s : Banks) (log : Log)
    → IsLegalLayout l → Holds l numbers old s → s.phase ≡ Copying log
    → IsDue log.tail → length (bytes_due l.page log) ≡ l.page → MayLeave (program_of l s.target (page_due log) (bytes_due l.page log)) old new
    → image_page l new s.target (page_due log) ≡ bytes_due l.page log
    → Holds l numbers new (record s { phase = Copying (log_done l.page numbers log); copied = may_done l.page s.copied log })

-- whatever a program of the target's head or of a page of a copy leaves, the switch may begin again with an erase
abbrev pub CopiesFail : Type 0
CopiesFail =
    (l : Layout) (numbers : List (DeviceNumber × ℕ)) (old new page : List ℕ) (s : Banks) (q : ℕ) (log : Log)
    → IsLegalLayout l → Holds l numbers old s → s.phase ≡ Copying log
    → length page ≡ l.page → q < l.pages → (q ≡ 1 → ⊥) → MayLeave (program_of l s.target q page) old new
    → Holds l numbers new (record s { phase = Erasing 0 })

-- SOUND IMAGES
-- whatever an operation leaves of a sound image is sound: an erase of a sector of any bank
abbrev pub ErasesKeepSound : Type 0
ErasesKeepSound =
    (g : Geometry) (banks : ℕ) (old new : List ℕ) (k sector : ℕ)
    → MayLeave (erase_of g banks k sector) old new → IsSoundImage (layout_of g banks) old → IsSoundImage (layout_of g banks) new

-- a program of any page of a bank behind its gate
abbrev pub LogsKeepSound : Type 0
LogsKeepSound =
    (l : Layout) (old new page : List ℕ) (k q : ℕ)
    → IsLegalLayout l → length page ≡ l.page → 2 ≤ q → q < l.pages → MayLeave (program_of l k q page) old new → IsSoundImage l old → IsSoundImage l new

-- one of the target's head or of a page of a copy
abbrev pub CopiesKeepSound : Type 0
CopiesKeepSound =
    (l : Layout) (numbers : List (DeviceNumber × ℕ)) (old new page : List ℕ) (s : Banks) (q : ℕ) (log : Log)
    → IsLegalLayout l → Holds l numbers old s → s.phase ≡ Copying log
    → length page ≡ l.page → q < l.pages → (q ≡ 1 → ⊥) → MayLeave (program_of l s.target q page) old new → IsSoundImage l old → IsSoundImage l new

-- and one of its gate
abbrev pub GatesKeepSound : Type 0
GatesKeepSound =
    (l : Layout) (numbers : List (DeviceNumber × ℕ)) (old new : List ℕ) (s : Banks) (log : Log)
    → IsLegalLayout l → Holds l numbers old s → s.phase ≡ Sealing log → MayLeave (program_of l s.target 1 (gate_page l.page)) old new
    → IsSoundImage l old → IsSoundImage l new

-- THE SEAL
-- the head is done, where each number is copied
abbrev pub HeadsDone : Type 0
HeadsDone =
    (l : Layout) (numbers : List (DeviceNumber × ℕ)) (old new : List ℕ) (s : Banks) (log : Log)
    → IsLegalLayout l → Holds l numbers old s → s.phase ≡ Copying log → generation_of s.old + 1 < 2 ^ 32 → IsWider s.copied s.may
    → let head = bank_head_page l.page (next_head s.old) in
    MayLeave (program_of l s.target 0 head) old new → image_page l new s.target 0 ≡ head → Holds l numbers new (record s { phase = Sealing log })

-- whatever a program of the gate leaves, each retry begins from what held before
abbrev pub GatesFail : Type 0
GatesFail =
    (l : Layout) (numbers : List (DeviceNumber × ℕ)) (old new : List ℕ) (s : Banks) (log : Log)
    → IsLegalLayout l → Holds l numbers old s → s.phase ≡ Sealing log → MayLeave (program_of l s.target 1 (gate_page l.page)) old new → Holds l numbers new s

-- done: the target is active and shows the copies alone; the next target is any other bank
abbrev pub GatesDone : Type 0
GatesDone =
    (l : Layout) (numbers : List (DeviceNumber × ℕ)) (old new : List ℕ) (s : Banks) (log : Log) (t : ℕ)
    → IsLegalLayout l → Holds l numbers old s → s.phase ≡ Sealing log → MayLeave (program_of l s.target 1 (gate_page l.page)) old new
    → image_page l new s.target 1 ≡ gate_page l.page → t < l.banks → (t ≡ s.target → ⊥)
    → Holds l numbers new (record { old = OldBank s.target (next_head s.old) log; target = t; phase = Idle; may = s.copied; copied = s.copied })

-- IN MEMORY ALONE
-- of a target that is sealed, all that it may show may be found
abbrev pub SealsWithin : Phase → May → May → Type 0
SealsWithin (Sealing log) copied may = IsWider copied may
SealsWithin _ copied may = Unit {0}

-- more may be found
abbrev pub BanksWiden : Type 0
BanksWiden =
    (l : Layout) (numbers : List (DeviceNumber × ℕ)) (bytes : List ℕ) (s : Banks) (may copied : May)
    → Holds l numbers bytes s → IsWider s.may may → IsWider s.copied copied → SealsWithin s.phase copied may
    → Holds l numbers bytes (record s { may = may; copied = copied })

-- a number that is copied has in the sealed bank the place of its settled mark
abbrev pub SealsKeepSettled : Type 0
SealsKeepSettled =
    (l : Layout) (numbers : List (DeviceNumber × ℕ)) (bytes : List ℕ) (s : Banks) (log : Log) (i : ℕ) (n : DeviceNumber × ℕ) (m : Held)
    → Holds l numbers bytes s → s.phase ≡ Sealing log → slice_get numbers i ≡ Some n → s.copied n.0.0 n.1 ≡ Some (m ∷ [])
    → IsPlaced (bank_in l new_format s.target) bytes (λ number length. Some (m ∷ [])) log.end n log.places i

-- STARTS
-- nothing but what is found
abbrev pub found_alone : Layout → List ℕ → May
found_alone l bytes number length = Some (found_held l bytes number length ∷ [])

abbrev pub BanksLoad : Type 0
BanksLoad =
    (l : Layout) (numbers : List (DeviceNumber × ℕ)) (bytes : List ℕ) (k t : ℕ) (h : BankHead) (tail : Tail) (copied : May)
    → IsLegalLayout l → l.pages * l.page * l.banks ≤ length bytes → active_of l bytes ≡ Some (k, h) → t < l.banks → (t ≡ k → ⊥)
    → let b = bank_in l h.format k in IsLoadedTail b bytes tail
    → Holds l numbers bytes (record { old = OldBank k h (loaded_log b numbers bytes tail); target = t; phase = Idle; may = found_alone l bytes; copied = copied })

abbrev pub NoBankLoads : Type 0
NoBankLoads =
    (l : Layout) (numbers : List (DeviceNumber × ℕ)) (bytes : List ℕ) (t : ℕ) (copied : May)
    → l.pages * l.page * l.banks ≤ length bytes → active_of l bytes ≡ None → t < l.banks
    → Holds l numbers bytes (record { old = NoBank; target = t; phase = Idle; may = found_alone l bytes; copied = copied })
