-- What a step leaves of a device over banks.
use Rattle.std.specs.Prelude.{ℕ, List}
use Rattle.nv_base.specs.declared.instance.DeviceNumber.{DeviceNumber}
use Rattle.memif.specs.Told.{Stand, slot_at}
use Rattle.memif.specs.Marks.{IsPossible, Keeps}
use Rattle.fee_format.specs.declared.bank_head.BankHead.{BankHead}
use Rattle.fee_image.specs.Image.{Layout, IsLegalLayout}
use Rattle.fee_image.specs.Sound.{IsSoundImage}
use Rattle.fee_image.specs.Log.{Log}
use Rattle.fee_image.specs.May.{May, IsWider}
use Rattle.fee_image.specs.Banks.{OldBank}
use Rattle.fee_image.specs.BankLaws.{TakesAppends}
use Rattle.fee_told.specs.Slots.{Memory, slots_held, held_of}
use Rattle.fee_told.specs.SlotLaws.{IsHeld}

-- the bytes hold what it has in memory then; what is settled stays, and no doubt is new; a sound image stays sound
pub record IsKept (l : Layout) (numbers : List (DeviceNumber × ℕ)) (old new : List ℕ) (m t : Memory) (copied : May) : Type 0 where
  pub held : IsHeld l numbers new t copied
  pub keeps : (n : ℕ) → Keeps (slot_at numbers (slots_held l numbers old m) n) (slot_at numbers (slots_held l numbers new t) n)
  pub sound : IsSoundImage l old → IsSoundImage l new

-- so where whatever a cut leaves is kept, what a start-up finds in it was possible before
abbrev pub KeptIsFound : Type 0
KeptIsFound =
    (l : Layout) (numbers : List (DeviceNumber × ℕ)) (old image : List ℕ) (m t : Memory) (copied : May)
    → IsLegalLayout l → IsKept l numbers old image m t copied
    → (n : ℕ) → IsPossible (slot_at numbers (slots_held l numbers old m) n) (held_of l numbers image n)

-- with another log of the old bank, and where the jobs stand then
abbrev pub with_log : Memory → ℕ → BankHead → Log → Stand → Memory
with_log m k h log stand = record m { old = OldBank k h log; stand = stand }

-- more may be copied, but to a target that is sealed
abbrev pub CopiesWiden : Type 0
CopiesWiden =
    (l : Layout) (numbers : List (DeviceNumber × ℕ)) (bytes : List ℕ) (m : Memory) (copied wide : May)
    → IsHeld l numbers bytes m copied → IsWider copied wide → TakesAppends m.phase → IsHeld l numbers bytes m wide
