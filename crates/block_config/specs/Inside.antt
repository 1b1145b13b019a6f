-- What a configuration keeps.
use Rattle.std.specs.Prelude.{◌≡◌}
use Rattle.block_config.specs.declared.config.Config.TheInside.{Inside}
use Rattle.block_config.specs.Config.{Configuration}
use Rattle.block_config.specs.Rules.{IsLegalConfig}
use Rattle.block_config.specs.Sizes.{measures_of}

abbrev pub shown : Inside → Configuration
shown c = record { id = c.id; geometry = c.geometry; banks = c.banks; eeprom = c.eeprom; standard = c.standard; immediate = c.immediate; blocks = c.blocks.items }

-- the rules hold, and the measures are those of the blocks
pub record IsKept (c : Inside) : Type 0 where
  pub legal : IsLegalConfig (shown c)
  pub measured : c.measures ≡ measures_of c.geometry.page c.blocks.items
