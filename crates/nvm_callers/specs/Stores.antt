-- A caller's sides of synchronized blocks.
use Rattle.std.specs.Prelude.{ℕ, List, [], option_map, Option, Some, None}
use Rattle.turn_gate.specs.declared.pass.View.{View}
use Rattle.driver_moves.specs.block_machine.Words.{Entry}
use Rattle.driver_moves.specs.nvm_shared.declared.terms.Terms.{Terms}
use Rattle.ram_mirrors_sync.specs.Blocks.{Pairs, SideList, SideValue, side_at}
use Rattle.nvm_callers.specs.Stored.{Stored}

-- what a store hands along
abbrev pub Along : Type 0
Along = View Entry Terms

pub record SidesValue : Type 0 where
  pub mirrors : Pairs
  pub sides : SideList Along

abbrev pub stores_by : Option (SideValue Along) → List Stored
stores_by None = []
stores_by (Some s) = s.up.stores

-- the stores of a block, if its side is there
abbrev pub stores_at : SideList Along → ℕ → List Stored
stores_at sides block = stores_by (side_at sides block)

-- how many bytes a store of the block has, if its side is there
abbrev pub bytes_by : Option (SideValue Along) → Option ℕ
bytes_by o = option_map (λ s. s.up.size) o

abbrev pub bytes_at : SideList Along → ℕ → Option ℕ
bytes_at sides block = bytes_by (side_at sides block)
