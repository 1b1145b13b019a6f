-- Configurations.
use Rattle.std.specs.Prelude.{ℕ, zero, suc, List, slice_get, Option, None}
use Rattle.nv_base.specs.declared.geometry.Geometry.{Geometry}
use Rattle.block_config.specs.declared.block.BlockDesc.{BlockDesc}

-- the configuration id, the shape of the flash and how many banks share its sectors, the shape of the second device's flash where there is one, the sizes
-- of the standard and the immediate queue, and the blocks: block 1 first, so block i is item i - 1
pub record Configuration : Type 0 where
  pub id : ℕ
  pub geometry : Geometry
  pub banks : ℕ
  pub eeprom : Option Geometry
  pub standard : ℕ
  pub immediate : ℕ
  pub blocks : List BlockDesc

-- the block with an id, if there is one
abbrev pub block_of : Configuration → ℕ → Option BlockDesc
block_of c zero = None
block_of c (suc i) = slice_get c.blocks i
