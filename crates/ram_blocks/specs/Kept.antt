-- The RAM that the manager keeps.
use Rattle.std.specs.Prelude.{ℕ, ◌==◌, ◌||◌, false, List, ◌∷◌, map, replicate, if◌then◌else◌, Option, Some, None}
use Rattle.std.specs.List.{enumerate_from}
use Rattle.block_machine.specs.block_config.declared.block.BlockDesc.{BlockDesc}
use Rattle.block_machine.specs.block_config.Config.{Configuration}
use Rattle.block_machine.specs.Blocks.{is_permanent}
use Rattle.ram_blocks.specs.declared.kept.RamBlock.{RamBlock}

-- so many zeros, neither valid nor changed
abbrev pub zeros : ℕ → RamBlock
zeros n = record { content = replicate n 0; flags = record { valid = false; changed = false } }

-- what stands for a block that isn't configured, and for id 0
abbrev pub no_ram : RamBlock
no_ram = zeros 0

-- the manager keeps the RAM of block 1 and of a permanent RAM block
abbrev pub ram_of : ℕ → BlockDesc → RamBlock
ram_of id d = zeros (if (id == 1) || is_permanent d.ram then d.length else 0)

abbrev pub ram_by : ℕ → Option BlockDesc → RamBlock
ram_by id None = no_ram
ram_by id (Some d) = ram_of id d

-- by id, from 0 on
abbrev pub kept_of : Configuration → List RamBlock
kept_of c = no_ram ∷ map (λ x. ram_of x.0 x.1) (enumerate_from 1 c.blocks)
