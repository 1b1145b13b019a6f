-- What follows from the rules.
use Rattle.std.specs.Prelude.{◌≡◌, None, All}
use Rattle.block_config.specs.Config.{Configuration}
use Rattle.block_config.specs.Lengths.{lengths_of, device_lengths}
use Rattle.block_config.specs.Rules.{IsLegalConfig}

-- without a second device each block is the first's
abbrev pub BlocksAreFirst : Type 0
BlocksAreFirst = (c : Configuration) → IsLegalConfig c → c.eeprom ≡ None → All (λ b. b.device ≡ 0) c.blocks

-- and it stores all instances
abbrev pub LengthsAreFirst : Type 0
LengthsAreFirst = (c : Configuration) → IsLegalConfig c → c.eeprom ≡ None → device_lengths 0 c ≡ lengths_of c
