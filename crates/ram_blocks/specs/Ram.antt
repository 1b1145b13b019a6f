-- A block's RAM.
use Rattle.std.specs.Prelude.{ℕ, List}
use Rattle.ram_blocks.specs.declared.kept.RamFlags.{RamFlags}

-- its content, of no bytes where the manager keeps none, and its flags
pub record Ram : Type 0 where
  pub content : List ℕ
  pub flags : RamFlags
