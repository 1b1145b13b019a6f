-- What the start and the end of a job without a record, and a start-up, make of what a device tells.
use Rattle.std.specs.Prelude.{◌≡◌, ◌<◌, ◌≤◌, ◌*◌, ℕ, false, List, length, Some, None}
use Rattle.nv_base.specs.declared.instance.DeviceNumber.{DeviceNumber}
use Rattle.nv_base.specs.Lengths.{AreLengths}
use Rattle.memif.specs.Told.{Slot, Stand, is_open, slot_at}
use Rattle.memif.specs.Marks.{IsPossible}
use Rattle.fee_format.specs.declared.bank_head.BankHead.{BankHead}
use Rattle.fee_image.specs.Image.{Layout, IsLegalLayout, bank_in, active_of}
use Rattle.fee_image.specs.LogLaws.{loaded_log, IsLoadedTail}
use Rattle.fee_image.specs.Log.{Tail}
use Rattle.fee_image.specs.May.{May}
use Rattle.fee_image.specs.Banks.{NoBank, OldBank, Idle}
use Rattle.fee_told.specs.Slots.{Memory, HasJob, slots_held, held_of}
use Rattle.fee_told.specs.SlotLaws.{IsHeld, IsStarted}
use Rattle.fee_told.specs.Switches.{Stands}

-- a job opens or ends, and no record of another is in work
abbrev pub JobsChange : Type 0
JobsChange =
    (l : Layout) (numbers : List (DeviceNumber × ℕ)) (bytes : List ℕ) (m : Memory) (copied : May) (stand : Stand)
    → Stands l numbers bytes m copied → HasJob numbers stand m.old → IsHeld l numbers bytes (record m { stand = stand }) copied

-- A START-UP
-- bytes of a flash, in which what was told so far makes possible what a start-up finds
pub record MayStart (l : Layout) (numbers : List (DeviceNumber × ℕ)) (bytes : List ℕ) (slots : List Slot) (target : ℕ) (stand : Stand) : Type 0 where
  pub lengths : AreLengths 0 numbers
  pub legal : IsLegalLayout l
  pub size : l.pages * l.page * l.banks ≤ length bytes
  pub target_in : target < l.banks
  pub possible : (n : ℕ) → IsPossible (slot_at numbers slots n) (held_of l numbers bytes n)
  pub shut : is_open stand ≡ false

-- each number is settled at what is found
pub record AreStarted (l : Layout) (numbers : List (DeviceNumber × ℕ)) (bytes : List ℕ) (slots : List Slot) (t : Memory) (copied : May) : Type 0 where
  pub held : IsHeld l numbers bytes t copied
  pub starts : (n : ℕ) → IsStarted (slot_at numbers slots n) (slot_at numbers (slots_held l numbers bytes t) n)

abbrev pub BanksStart : Type 0
BanksStart =
    (l : Layout) (numbers : List (DeviceNumber × ℕ)) (bytes : List ℕ) (slots : List Slot) (k target : ℕ)
    (h : BankHead) (tail : Tail) (copied : May) (stand : Stand)
    → MayStart l numbers bytes slots target stand → active_of l bytes ≡ Some (k, h) → (target ≡ k → ⊥)
    → let b = bank_in l h.format k in
    IsLoadedTail b bytes tail
    → AreStarted l numbers bytes slots
    (record { old = OldBank k h (loaded_log b numbers bytes tail); target = target; phase = Idle; stand = stand }) copied

abbrev pub NoBankStarts : Type 0
NoBankStarts =
    (l : Layout) (numbers : List (DeviceNumber × ℕ)) (bytes : List ℕ) (slots : List Slot) (target : ℕ) (copied : May) (stand : Stand)
    → MayStart l numbers bytes slots target stand → active_of l bytes ≡ None
    → AreStarted l numbers bytes slots (record { old = NoBank; target = target; phase = Idle; stand = stand }) copied
