-- Which bank each generation gets: the banks take turns.
use Rattle.std.specs.Prelude.{◌≡◌, ◌<◌, ◌≤◌, ◌+◌, ◌-◌, ◌%◌, ◌&&◌, ℕ, Bool, IsTrue, List, [], None, replicate}
use Rattle.std.specs.List.{All, list_any}
use Rattle.nv_base.specs.Geometry.{IsLegal, HasBanks, size_of, address_of_page}
use Rattle.fls_model.specs.Attach.{AreBytesOf}
use Rattle.fls_model.specs.Op.{Op, Program, Erase}
use Rattle.fls_model.specs.Told.{Change}
use Rattle.fee_format.specs.declared.bank_head.BankHead.{BankHead}
use Rattle.fee_format.specs.BankHead.{bank_head_page}
use Rattle.fee_format.specs.Formats.{new_format}
use Rattle.fee_image.specs.Image.{BankStands, active_of}
use Rattle.fee_image.specs.Sound.{IsSoundImage}
use Rattle.promise_device.specs.Making.{Making, banks_of}
use Rattle.promise_device.specs.FlashRun.{IsChain}
use Rattle.promise_device.specs.Traits.{page_in_bank, is_done}
use Rattle.promise_device.specs.Wear.{same_op, generation_in, are_due}

-- the first generation gets the first bank, each other one the next bank, and behind the last bank comes the first
abbrev pub bank_of_generation : (banks t : ℕ) → ℕ
bank_of_generation banks t = (t - 1) % banks

-- bank k has generation t in its turn
abbrev pub IsTurn : (banks k t : ℕ) → Type 0
IsTurn banks k t = (1 ≤ t) × (k ≡ bank_of_generation banks t)

-- the program of the head of generation t, on its bank
abbrev pub head_op : Making → (t : ℕ) → Op
head_op m t = Program (address_of_page m.geometry m.banks (bank_of_generation m.banks t) 0) (bank_head_page m.geometry.page (record { format = new_format; generation = t }))

-- that is this operation, and it was done
abbrev pub sets_generation : Making → (t : ℕ) → Change → Bool
sets_generation m t x = is_done x.answer && same_op (head_op m t) x.op

-- a program of the first page of a bank is of the head of a generation, of this one at most, on its bank
abbrev pub IsInTurn : Making → (most : ℕ) → Op → Type 0
IsInTurn m most (Program address page) = page_in_bank m.geometry m.banks address ≡ 0 → (t : ℕ) × (1 ≤ t) × (t ≤ most) × (Program address page ≡ head_op m t)
IsInTurn m most (Erase address n) = Unit {0}

-- the generation of the active bank, 0 without one
abbrev pub generation_of : Making → List ℕ → ℕ
generation_of m image = generation_in (active_of (banks_of m) image)

-- What operations over a flash have made of its banks: each one that stands has a generation in its turn, at most the active one's;
-- the head of each generation up to that was programmed and done; and none was asked for but of one more.
pub record TakeTurns (m : Making) (operations : List Change) (image : List ℕ) : Type 0 where
  pub stand : (k : ℕ) (h : BankHead) → k < m.banks → BankStands (banks_of m) image k h → IsTurn m.banks k h.generation × (h.generation ≤ generation_of m image)
  pub set : (t : ℕ) → 1 ≤ t → t ≤ generation_of m image → IsTrue (list_any (sets_generation m t) operations)
  pub asked : All (λ x. IsInTurn m (generation_of m image + 1) x.op) operations

-- a flash of sound bytes on which no bank stands, as a blank one
pub record IsUnused (m : Making) (image : List ℕ) : Type 0 where
  pub bytes : AreBytesOf m.geometry image
  pub sound : IsSoundImage (banks_of m) image
  pub none : active_of (banks_of m) image ≡ None

abbrev pub BlankIsUnused : Type 0
BlankIsUnused = (m : Making) → IsLegal m.geometry → IsUnused m (replicate (size_of m.geometry) 255)

-- where each operation is due, the banks take turns from such a flash on
abbrev pub BanksTakeTurns : Type 0
BanksTakeTurns =
    (m : Making) (operations : List Change) (first last : List ℕ)
    → IsLegal m.geometry → HasBanks m.geometry m.banks → IsUnused m first → IsChain first operations last → IsTrue (are_due m [] operations)
    → TakeTurns m operations last
