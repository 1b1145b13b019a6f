-- What the text of a configuration says, and a configuration of a block.
use Rattle.std.specs.Prelude.{◌≡◌, ◌⊎◌, ℕ, Bool, false, true, List, length, Some, None, is_some, Ok, Err}
use Rattle.nvm.specs.block_config.Config.{Configuration, block_of}
use Rattle.nvm.specs.block_config.Reading.{meaning_of}
use Rattle.nvm.specs.block_config.declared.block.BlockDesc.{BlockDesc}
use Rattle.nvm.specs.block_config.declared.block.BlockKind.{BlockKind}
use Rattle.nvm.specs.block_config.declared.block.BlockKind.TheVariants as kind
use Rattle.nvm.specs.block_config.declared.block.RamKind.{RamKind}
use Rattle.nvm.specs.block_config.declared.block.RamKind.TheVariants as ram
use Rattle.nvm.specs.block_config.declared.fault.ConfigFault.TheVariants.{Broken}
use Rattle.nvm_c.specs.declared.texts.BlockFacts.{BlockFacts}

-- Nothing is wrong, for it is a configuration; or it breaks this rule, the first by number, at the first block that does, which is 0 of a
-- rule that isn't about one block; or there was no memory to say.
abbrev pub IsChecked : (text : List ℕ) → (code rule block : ℕ) → Type 0
IsChecked text code rule block =
    ((c : Configuration) × (meaning_of text ≡ Ok c) × (code ≡ 0) × (rule ≡ 0) × (block ≡ 0))
    ⊎ (((meaning_of text ≡ Err (Broken rule block)) × (code ≡ 1)) ⊎ ((code ≡ 4) × (rule ≡ 0) × (block ≡ 0)))

-- BLOCKS
abbrev pub kind_number : BlockKind → ℕ
kind_number kind.Native = 0
kind_number kind.Redundant = 1
kind_number kind.Dataset = 2

abbrev pub ram_number : RamKind → ℕ
ram_number ram.None = 0
ram_number ram.Permanent = 1
ram_number ram.Sync = 2

abbrev pub flag : Bool → ℕ
flag false = 0
flag true = 1

-- a description as C gets it: each key of the text, but the contents of defaults and ROM datasets
abbrev pub facts_of : BlockDesc → BlockFacts
facts_of d = record {
  roms = length d.rom;
  length = d.length;
  kind = kind_number d.kind;
  nv = d.nv;
  ram = ram_number d.ram;
  has_defaults = flag (is_some d.defaults);
  in_readall = flag d.readall;
  in_writeall = flag d.writeall;
  write_once = flag d.once;
  write_protected = flag d.protected;
  resistant = flag d.resistant;
  priority = d.priority;
  reads = d.reads;
  writes = d.writes;
  repeats = d.repeats;
  device = d.device;
}

-- So it is of the block with this id, or there is none, and nothing is told.
abbrev pub IsDescribed : Configuration → (block code : ℕ) → BlockFacts → BlockFacts → Type 0
IsDescribed c block code old new =
    ((d : BlockDesc) × (block_of c block ≡ Some d) × (code ≡ 0) × (new ≡ facts_of d)) ⊎ ((block_of c block ≡ None) × (code ≡ 1) × (new ≡ old))
