-- The configuration that comes with the product.
use Rattle.std.specs.Prelude.{true, [], ◌∷◌, Some, None, replicate}
use Rattle.block_config.specs.declared.block.BlockDesc.{BlockDesc}
use Rattle.block_config.specs.declared.block.RamKind.TheVariants.{Permanent}
use Rattle.block_config.specs.Block.{plain_block, manager_block}
use Rattle.block_config.specs.Config.{Configuration}

-- {"length":4,"priority":10,"ram":"permanent","readall":true,"writeall":true,"reads":1,"writes":1}
abbrev pub demo_block_2 : BlockDesc
demo_block_2 = record (plain_block 4) { priority = 10; ram = Permanent; readall = true; writeall = true; reads = 1; writes = 1 }

-- {"length":20,"priority":0,"defaults":"a5*20","reads":1,"writes":1}
abbrev pub demo_block_3 : BlockDesc
demo_block_3 = record (plain_block 20) { priority = 0; defaults = Some (replicate 20 0xa5); reads = 1; writes = 1 }

-- {"id":1,"page":16,"sector":256,"sectors":8,"standard":8,"immediate":4,"blocks":[..]}
abbrev pub demo_config : Configuration
demo_config = record {
  id = 1;
  geometry = record { page = 16; sector = 256; sectors = 8 };
  banks = 2;
  eeprom = None;
  standard = 8;
  immediate = 4;
  blocks = manager_block 1 ∷ demo_block_2 ∷ demo_block_3 ∷ [];
}
