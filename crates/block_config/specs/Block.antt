-- Descriptions of blocks.
use Rattle.std.specs.Prelude.{ℕ, ◌/◌, ◌%◌, true, false, List, [], ◌∷◌, Some, None}
use Rattle.block_config.specs.declared.block.BlockDesc.{BlockDesc}
use Rattle.block_config.specs.declared.block.BlockKind.{BlockKind}
use Rattle.block_config.specs.declared.block.BlockKind.TheVariants.{Native, Redundant, Dataset}
use Rattle.block_config.specs.declared.block.RamKind.TheVariants as ram

-- the stored instances of a block of this kind with so many stored datasets
abbrev pub instance_count : BlockKind → ℕ → ℕ
instance_count Native nv = 1
instance_count Redundant nv = 2
instance_count Dataset nv = nv

-- the records of one write: of a redundant block both copies are written
abbrev pub record_count : BlockKind → ℕ
record_count Native = 1
record_count Redundant = 2
record_count Dataset = 1

-- a native block of this length for which nothing else was configured
abbrev pub plain_block : ℕ → BlockDesc
plain_block n = record {
  kind = Native;
  length = n;
  priority = 100;
  ram = ram.None;
  defaults = None;
  nv = 0;
  rom = [];
  readall = false;
  writeall = false;
  once = false;
  protected = false;
  resistant = false;
  reads = 0;
  writes = 0;
  repeats = 0;
  device = 0;
}

-- a configuration id as the content of block 1: two bytes, the high one first
abbrev pub id_bytes : ℕ → List ℕ
id_bytes id = id / 256 ∷ id % 256 ∷ []

-- block 1, which the manager keeps for itself: it holds the configuration id, and is a member of both sweeps
abbrev pub manager_block : ℕ → BlockDesc
manager_block id =
    record (plain_block 2) { kind = Redundant; priority = 255; defaults = Some (id_bytes id); readall = true; writeall = true; reads = 1; writes = 1 }
