-- The rules of a configuration, by their numbers, as facts on its numbers and blocks. The rules on the text that it is
-- read from stand in Reading (1, 23, 24 and 29), Head (2 to 10), Item (11 to 22 and 25) and Second (26 to 28). In which order they are tested,
-- and which one is told, says Reading.
use Rattle.std.specs.Prelude.{◌≡◌, ℕ, ◌≤◌, Bool, false, List, [], ◌∷◌, length, Option, Some, None, is_none, IfSome, All}
use Rattle.nv_base.specs.Geometry.{IsLegal, HasBanks}
use Rattle.block_config.specs.Banks.{bank_pages_of}
use Rattle.block_config.specs.declared.block.BlockDesc.{BlockDesc}
use Rattle.block_config.specs.declared.block.BlockKind.{BlockKind}
use Rattle.block_config.specs.declared.block.BlockKind.TheVariants.{Native, Redundant, Dataset}
use Rattle.block_config.specs.declared.block.RamKind.{RamKind}
use Rattle.block_config.specs.declared.block.RamKind.TheVariants.{Permanent, Sync}
use Rattle.block_config.specs.declared.block.RamKind.TheVariants as ram
use Rattle.block_config.specs.Block.{manager_block}
use Rattle.block_config.specs.Config.{Configuration}
use Rattle.block_config.specs.Second.{are_first, IsSecond}
use Rattle.block_config.specs.Sizes.{measures_of, need_of}

-- 8 and 9: a queue has room for 1 to 256 jobs
pub record IsQueueSize (n : ℕ) : Type 0 where
  pub low : 1 ≤ n
  pub high : n ≤ 256

-- 13: a content has 1 to 4,096 bytes
pub record IsLength (n : ℕ) : Type 0 where
  pub low : 1 ≤ n
  pub high : n ≤ 4096

-- 16: defaults have the block's length, and a dataset has none
abbrev pub AreDefaults : BlockKind → ℕ → Option (List ℕ) → Type 0
AreDefaults kind n None = Unit {0}
AreDefaults Native n (Some bytes) = length bytes ≡ n
AreDefaults Redundant n (Some bytes) = length bytes ≡ n
AreDefaults Dataset n (Some bytes) = ⊥

-- 17: a dataset has 1 to 64 stored datasets, and no other block has any
abbrev pub IsDatasetCount : BlockKind → ℕ → Type 0
IsDatasetCount Native nv = nv ≡ 0
IsDatasetCount Redundant nv = nv ≡ 0
IsDatasetCount Dataset nv = (1 ≤ nv) × (nv ≤ 64)

-- 18: a dataset has at most 16 ROM datasets, each of the block's length, and no other block has any
abbrev pub AreRomDatasets : BlockKind → ℕ → List (List ℕ) → Type 0
AreRomDatasets Native n rom = rom ≡ []
AreRomDatasets Redundant n rom = rom ≡ []
AreRomDatasets Dataset n rom = (length rom ≤ 16) × All (λ content. length content ≡ n) rom

-- 20: a member of a sweep has RAM
abbrev pub MayBeMember : RamKind → Bool → Type 0
MayBeMember ram.None member = member ≡ false
MayBeMember Permanent member = Unit {0}
MayBeMember Sync member = Unit {0}

-- 21: a dataset isn't write-once
abbrev pub MayBeOnce : BlockKind → Bool → Type 0
MayBeOnce Native once = Unit {0}
MayBeOnce Redundant once = Unit {0}
MayBeOnce Dataset once = once ≡ false

-- the rules of a block
pub record IsLegalBlock (b : BlockDesc) : Type 0 where
  pub content : IsLength b.length
  -- 14
  pub priority : b.priority ≤ 255
  pub defaults : AreDefaults b.kind b.length b.defaults
  pub datasets : IsDatasetCount b.kind b.nv
  pub rom : AreRomDatasets b.kind b.length b.rom
  pub readall : MayBeMember b.ram b.readall
  pub writeall : MayBeMember b.ram b.writeall
  pub once : MayBeOnce b.kind b.once
  -- 22: at most seven further tries
  pub reads : b.reads ≤ 7
  pub writes : b.writes ≤ 7
  pub repeats : b.repeats ≤ 7

-- block 1 is the manager's own, and each other block keeps the rules of a block
abbrev pub AreBlocks : ℕ → List BlockDesc → Type 0
AreBlocks id [] = ⊥
AreBlocks id (b ∷ bs) = (b ≡ manager_block id) × All IsLegalBlock bs

-- the pages that a bank needs
abbrev pub need_pages_of : Configuration → ℕ
need_pages_of c = need_of (measures_of c.geometry.page c.blocks)

-- the rules of a configuration
pub record IsLegalConfig (c : Configuration) : Type 0 where
  -- 3
  pub id : c.id ≤ 65535
  -- 4 to 7
  pub geometry : IsLegal c.geometry
  pub standard : IsQueueSize c.standard
  pub immediate : IsQueueSize c.immediate
  -- 10: with block 1 there are 2 to 512 blocks
  pub blocks_low : 2 ≤ length c.blocks
  pub blocks_high : length c.blocks ≤ 512
  -- 13 to 22
  pub blocks_legal : AreBlocks c.id c.blocks
  -- 23: at most 4,096 instances
  pub instances : (measures_of c.geometry.page c.blocks).instances ≤ 4096
  -- 24: the pages that are needed have room in a bank
  pub room : need_pages_of c ≤ bank_pages_of c
  -- 25
  pub devices : All (λ b. b.device ≤ 1) c.blocks
  -- 26: a second device is there exactly where a block isn't the first's
  pub one_device : are_first c.blocks ≡ is_none c.eeprom
  -- 26 to 28
  pub second : IfSome c.eeprom (IsSecond c.blocks)
  -- 29
  pub shared : HasBanks c.geometry c.banks
