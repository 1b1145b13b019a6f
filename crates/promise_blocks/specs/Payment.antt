-- What pays for the failures of a history, of all blocks or of some. OverDevice says it of each part of a device by itself (`paid`).
use Rattle.std.specs.Prelude.{◌≡◌, ◌⊎◌, ◌≤◌, ◌-◌, ℕ, Bool, true, if◌then◌else◌, List, [], ◌∷◌, unwrap_or, Contains, IsSome, Some}
use Rattle.block_machine.specs.nv_base.Count.{WereCounted}
use Rattle.block_machine.specs.nv_base.Marks.{number_of}
use Rattle.block_machine.specs.Words.{Entry, Post, Configuration}
use Rattle.block_machine.specs.State.{State, Job}
use Rattle.block_machine.specs.Blocks.{mark_of, rank_of}
use Rattle.block_machine.specs.StartUp.{at_first}
use Rattle.block_machine.specs.Results.{own_of, failed_set}
use Rattle.block_machine.specs.Steps.{step}
use Rattle.block_machine.specs.Prices.{price_in_faults}

-- Where a device is worn out: once so many operations were made, it can't write this number any more, by an urgent job or by
-- another one.
abbrev pub Worn : Type 1
Worn = (operations number : ℕ) → (urgent : Bool) → Type 0

-- the device was worn out for such a job of one of these instances of a block, once at most so many operations were made
pub record WasWorn (worn : Worn) (urgent : Bool) (block : ℕ) (indices : List ℕ) (ops : ℕ) : Type 0 where
  pub index : ℕ
  pub failed : Contains indices index
  pub moment : ℕ
  pub by_then : moment ≤ ops
  pub is : worn moment (number_of (record { block = block; index = index })) urgent

-- A write, invalidate or erase failed where the device was worn out for it. An immediate job is an urgent one at the device, which
-- may take the pages that are kept.
abbrev pub IsExcused : Configuration → Worn → State → Entry → Type 0
IsExcused c worn s (Post block r given refused ops) =
    (j : Job) × (s.hand ≡ Some j) × IsSome (mark_of j) × WasWorn worn (rank_of c j).immediate block (unwrap_or (failed_set (own_of c s block) j (r, given)) []) ops
IsExcused c worn s e = ⊥

-- the price of a Post of one of these blocks; a Post of another one has none
abbrev pub price_for : (ℕ → Bool) → Configuration → State → Entry → ℕ
price_for of c s (Post block r given refused ops) = if of block then price_in_faults c s (Post block r given refused ops) else 0
price_for of c s e = 0

-- so many faults pay for the Posts of these blocks, each with its price, but for those that are excused
abbrev pub ArePaid : (ℕ → Bool) → Configuration → Worn → ℕ → State → List Entry → Type 0
ArePaid of c worn faults s [] = Unit {0}
ArePaid of c worn faults s (e ∷ es) =
    ((price_for of c s e ≤ faults) × ArePaid of c worn (faults - price_for of c s e) (step c s e) es)
    ⊎ (IsExcused c worn s e × ArePaid of c worn faults (step c s e) es)

-- so many faults were counted between two values of a count as pay for the Posts of these blocks in a history
pub record IsPaid (of : ℕ → Bool) (c : Configuration) (worn : Worn) (before after : ℕ) (h : List Entry) : Type 0 where
  pub faults : ℕ
  pub counted : WereCounted faults before after
  pub pay : ArePaid of c worn faults at_first h

-- all blocks
abbrev pub every_block : ℕ → Bool
every_block block = true
