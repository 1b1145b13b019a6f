-- The banks of a flash with a switch between two of them, in memory and in the flash's bytes.
use Rattle.std.specs.Prelude.{◌≡◌, ◌<◌, ◌≤◌, ◌+◌, ◌*◌, ◌^◌, ℕ, List, length}
use Rattle.nv_base.specs.declared.instance.DeviceNumber.{DeviceNumber}
use Rattle.fee_format.specs.Formats.{new_format}
use Rattle.fee_format.specs.declared.bank_head.BankHead.{BankHead}
use Rattle.fee_format.specs.BankHead.{bank_head_page}
use Rattle.fee_format.specs.Pages.{blank_page}
use Rattle.nv_base.specs.Held.{never_written}
use Rattle.fee_image.specs.Image.{Layout, bank_in, image_page, BankStands, ComesFirst, found_held}
use Rattle.fee_image.specs.Log.{Log, HoldsLog}
use Rattle.fee_image.specs.May.{May, IsAmong, IsWider}

-- IN MEMORY
-- the bank that is active until the switch ends
pub data Old : Type 0 where
  NoBank : Old
  OldBank : (bank : ℕ) → (head : BankHead) → (log : Log) → Old

-- what becomes of the target, the bank that a switch makes stand
pub data Phase : Type 0 where
  -- no switch is open
  Idle : Phase
  -- so many of its pages are blank
  Erasing : (pages : ℕ) → Phase
  -- it holds copies, and no head yet
  Copying : (log : Log) → Phase
  -- its head is done and its gate isn't: it wasn't tried yet, or it failed and may stand open or not
  Sealing : (log : Log) → Phase

pub record Banks : Type 0 where
  pub old : Old
  pub target : ℕ
  pub phase : Phase
  -- the marks that may be found
  pub may : May
  -- those that the target may show: of a number whose copy is done, or that has no record, what is settled alone
  pub copied : May

-- the target's head: it comes after the old one
abbrev pub generation_of : Old → ℕ
generation_of NoBank = 0
generation_of (OldBank k h log) = h.generation

abbrev pub next_head : Old → BankHead
next_head old = record { format = new_format; generation = generation_of old + 1 }

-- IN THE BYTES
-- each mark that a start-up would find may be found
abbrev pub ImageShows : Layout → List ℕ → May → Type 0
ImageShows l bytes may = (number length : ℕ) → IsAmong (may number length) (found_held l bytes number length)

-- the old bank comes before bank j with this head; where there is none, no bank stands
abbrev pub IsBehind : Old → ℕ → BankHead → Type 0
IsBehind NoBank j other = ⊥
IsBehind (OldBank k h log) j other = (j ≡ k → ⊥) → ComesFirst k h j other

abbrev pub StandsBehind : Layout → List ℕ → Old → ℕ → Type 0
StandsBehind l bytes old j = (other : BankHead) → BankStands l bytes j other → IsBehind old j other

-- the old bank stands, and holds its log
pub record HoldsBank (l : Layout) (numbers : List (DeviceNumber × ℕ)) (bytes : List ℕ) (k : ℕ) (h : BankHead) (log : Log) (may : May) : Type 0 where
  pub bank : k < l.banks
  pub stands : BankStands l bytes k h
  pub holds : HoldsLog (bank_in l h.format k) numbers bytes may log

abbrev pub HoldsOld : Layout → List (DeviceNumber × ℕ) → List ℕ → ℕ → Old → May → Type 0
HoldsOld l numbers bytes target NoBank may = (number length : ℕ) → IsAmong (may number length) never_written
HoldsOld l numbers bytes target (OldBank k h log) may = (k ≡ target → ⊥) × HoldsBank l numbers bytes k h log may

-- the first pages of a bank are blank
abbrev pub AreBlank : Layout → List ℕ → ℕ → ℕ → Type 0
AreBlank l bytes k n = (q : ℕ) → q < n → q < l.pages → image_page l bytes k q ≡ blank_page l.page

pub record IsCopying (l : Layout) (numbers : List (DeviceNumber × ℕ)) (bytes : List ℕ) (target : ℕ) (log : Log) (copied : May) : Type 0 where
  pub first : AreBlank l bytes target 2
  pub holds : HoldsLog (bank_in l new_format target) numbers bytes copied log

pub record IsSealing (l : Layout) (numbers : List (DeviceNumber × ℕ)) (bytes : List ℕ) (s : Banks) (log : Log) : Type 0 where
  pub last : generation_of s.old + 1 < 2 ^ 32
  pub head : image_page l bytes s.target 0 ≡ bank_head_page l.page (next_head s.old)
  pub holds : HoldsLog (bank_in l new_format s.target) numbers bytes s.copied log
  -- each number is copied: the target shows nothing but what may be found
  pub whole : IsWider s.copied s.may

abbrev pub HoldsPhase : Layout → List (DeviceNumber × ℕ) → List ℕ → Banks → Phase → Type 0
HoldsPhase l numbers bytes s Idle = StandsBehind l bytes s.old s.target
HoldsPhase l numbers bytes s (Erasing n) = StandsBehind l bytes s.old s.target × AreBlank l bytes s.target n
HoldsPhase l numbers bytes s (Copying log) = IsCopying l numbers bytes s.target log s.copied
HoldsPhase l numbers bytes s (Sealing log) = IsSealing l numbers bytes s log

-- the bytes of a flash hold these banks: the old bank holds its log, the target is as its phase says, and every other bank
-- comes after the old one
pub record Holds (l : Layout) (numbers : List (DeviceNumber × ℕ)) (bytes : List ℕ) (s : Banks) : Type 0 where
  pub size : l.pages * l.page * l.banks ≤ length bytes
  pub target : s.target < l.banks
  pub old : HoldsOld l numbers bytes s.target s.old s.may
  pub behind : (j : ℕ) → j < l.banks → (j ≡ s.target → ⊥) → StandsBehind l bytes s.old j
  pub phase : HoldsPhase l numbers bytes s s.phase
