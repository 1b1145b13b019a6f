-- How many jobs have room.
use Rattle.std.specs.Prelude.{◌≡◌, ◌≢◌, ◌≤◌, ℕ, zero, suc, ◌+◌, ◌==◌, ◌||◌, Bool, true, false, List, [], ◌∷◌, length}
use Rattle.block_machine.specs.Words.{Configuration}
use Rattle.block_machine.specs.Blocks.{desc_of}
use Rattle.block_laws.specs.Consistent.{Each}

-- whether one of so many blocks, by id from 0 on, has this priority
abbrev pub has_priority : Configuration → ℕ → ℕ → Bool
has_priority c zero p = false
has_priority c (suc id) p = has_priority c id p || ((desc_of c id).priority == p)

-- no number stands twice
abbrev pub AreDistinct : List ℕ → Type 0
AreDistinct [] = Unit {0}
AreDistinct (n ∷ ns) = Each (λ m. m ≢ n) ns × AreDistinct ns

-- they have no more than so many priorities
abbrev pub HavePriorities : Configuration → (ids n : ℕ) → Type 0
HavePriorities c ids n = (ps : List ℕ) → Each (λ p. has_priority c ids p ≡ true) ps → AreDistinct ps → length ps ≤ n

-- There is room for a job on each of so many blocks; or for as many as each queue takes, and one of each priority more, since so many
-- standard ones may have been interrupted.
pub record HasRoom (c : Configuration) (ids most in_immediate in_standard : ℕ) : Type 0 where
  pub priorities : ℕ
  pub have : HavePriorities c ids priorities
  pub immediate : (n : ℕ) → n ≤ ids → n ≤ c.immediate → n ≤ in_immediate
  pub standard : (n : ℕ) → n ≤ ids → n ≤ c.standard + priorities → n ≤ in_standard
  pub all : (n : ℕ) → n ≤ ids → n ≤ c.immediate + c.standard + priorities → n ≤ most
