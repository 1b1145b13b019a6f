-- The table of last stores.
use Rattle.std.specs.Prelude.{◌≡◌, ◌≤◌, ◌+◌, ◌*◌, ℕ, false, List, length, get_or, if◌then◌else◌}
use Rattle.uds_gateway.specs.block_machine.Words.{Configuration}
use Rattle.uds_gateway.specs.block_machine.Blocks.{desc_of, is_synchronized}
use Rattle.uds_gateway.specs.script_walks.Words.{Step}
use Rattle.uds_gateway.specs.script_walks.Walk.{last_store}

-- sixteen callers a block
abbrev pub place_of : ℕ → ℕ → ℕ
place_of caller block = block * 16 + caller

-- the store that a write of a block's RAM asks for, by a caller after these steps
abbrev pub store_asked : Configuration → List Step → ℕ → ℕ → ℕ
store_asked c before caller block = if is_synchronized (desc_of c block).ram then last_store caller block before else 0

-- the table has it of each block and each caller
pub record HasLastStores (c : Configuration) (before : List Step) (table : List ℕ) : Type 0 where
  pub size : length table ≡ 16 * (length c.blocks + 1)
  pub numbers : (caller block : ℕ) → caller ≤ 15 → get_or table (place_of caller block) 0 ≡ store_asked c before caller block

-- it has none of a block that isn't synchronized
abbrev pub HoldsSynchronized : Configuration → List ℕ → Type 0
HoldsSynchronized c table = (caller block : ℕ) → caller ≤ 15 → is_synchronized (desc_of c block).ram ≡ false → get_or table (place_of caller block) 0 ≡ 0
