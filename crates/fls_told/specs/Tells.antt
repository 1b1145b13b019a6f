-- From what is told of each number to what a call of a device does.
use Rattle.std.specs.Prelude.{◌≡◌, ◌==◌, ◌≤◌, ℕ, IsTrue, List, [], length, Some}
use Rattle.nv_base.specs.declared.mark.Mark.{Mark}
use Rattle.memif.specs.Told.{Slot, IfElse}
use Rattle.memif.specs.Marks.{Keeps, Doubts, SettlesAs, ComesFrom, KeepsAll, DoubtsAt, Settles, EachNumber}
use Rattle.fls_model.specs.Told.{bytes_now}
use Rattle.fls_told.specs.Device.{FlashDevice, tells_now, slot_with, flash_told}
use Rattle.fls_told.specs.Clock.{ToldAlike}

-- one device, before and after a call
pub record IsSame (d t : FlashDevice) : Type 0 where
  pub reading : t.reading ≡ d.reading
  pub numbers : t.fixed.numbers ≡ d.fixed.numbers
  pub entry : t.entry ≡ d.entry
  pub later : length d.operations ≤ length t.operations
  pub old : ToldAlike d
  pub new : ToldAlike t

-- the bytes before and after are told, and what they hold is told behind the call
abbrev pub AreTold : FlashDevice → FlashDevice → List ℕ → List ℕ → Type 0
AreTold d t old new = IsTrue (tells_now t) × (bytes_now d.flash ≡ Some old) × (bytes_now t.flash ≡ Some new)

abbrev pub TellsKeep : Type 0
TellsKeep =
    (d t : FlashDevice) → IsSame d t → ((old new : List ℕ) → AreTold d t old new → (n : ℕ) → Keeps (slot_with d old n) (slot_with t new n))
    → KeepsAll (flash_told d) (flash_told t)

-- of one number: it settles a mark, or a job may leave one; all others keep theirs
abbrev pub OneSettles : ℕ → Mark → ℕ → Slot → Slot → Type 0
OneSettles number mark n s u = IfElse (n == number) (SettlesAs mark s u) (Keeps s u)

abbrev pub OneDoubts : ℕ → Mark → ℕ → Slot → Slot → Type 0
OneDoubts number mark n s u = IfElse (n == number) (Doubts mark s u) (Keeps s u)

abbrev pub TellsSettle : Type 0
TellsSettle =
    (d t : FlashDevice) (number : ℕ) (mark : Mark) → IsSame d t
    → ((old new : List ℕ) → AreTold d t old new → (n : ℕ) → OneSettles number mark n (slot_with d old n) (slot_with t new n))
    → Settles number mark (flash_told d) (flash_told t)

abbrev pub TellsDoubt : Type 0
TellsDoubt =
    (d t : FlashDevice) (number : ℕ) (mark : Mark) → IsSame d t
    → ((old new : List ℕ) → AreTold d t old new → (n : ℕ) → OneDoubts number mark n (slot_with d old n) (slot_with t new n))
    → DoubtsAt number (Some mark) (flash_told d) (flash_told t)

-- of a start-up: each number is settled at a mark that was possible, and no doubt is left
abbrev pub TellsStart : Type 0
TellsStart =
    (d t : FlashDevice) → IsSame d t → ((old new : List ℕ) → AreTold d t old new → (n : ℕ) → ComesFrom (slot_with d old n) (slot_with t new n) × ((slot_with t new n).doubts ≡ []))
    → EachNumber (λ n s u. ComesFrom s u) (flash_told d) (flash_told t) × EachNumber (λ n s u. u.doubts ≡ []) (flash_told d) (flash_told t)
