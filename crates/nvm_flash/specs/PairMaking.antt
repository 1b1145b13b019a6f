-- What the two devices of a configuration with a second one are made for, and what follows from its rules.
use Rattle.std.specs.Prelude.{◌≡◌, true, IfSome}
use Rattle.memif_fee_ea.specs.fee_core.nv_base.declared.geometry.Geometry.{Geometry}
use Rattle.memif_fee_ea.specs.fee_core.nv_base.Geometry.{sectors_of_bank}
use Rattle.memif_fee_ea.specs.fee_core.nv_base.Lengths.{AreLengths}
use Rattle.memif_fee_ea.specs.fee_core.memif.Told.{Fixed}
use Rattle.memif_fee_ea.specs.fee_core.fee_told.Figures.{fixed_for}
use Rattle.nvm_core.specs.block_config.Config.{Configuration}
use Rattle.nvm_core.specs.block_config.Lengths.{device_lengths, lengths_of}
use Rattle.nvm_core.specs.block_config.Rules.{IsLegalConfig}
use Rattle.nvm_core.specs.block_config.Sizes.{measures_of}
use Rattle.memif_fee_ea.specs.ea_slots.ea_told.Making as eeprom
use Rattle.memif_fee_ea.specs.memif_pair.Pair.{merged}
use Rattle.memif_fee_ea.specs.Numbers.{are_apart}

-- the slots of an EEPROM of this shape, for those of the second one
abbrev pub making_second : Geometry → Configuration → eeprom.Making
making_second g c = record { geometry = g; numbers = device_lengths 1 c }

-- the figures of the banks, for the numbers of the first one
abbrev pub fixed_of_first : Configuration → Fixed
fixed_of_first c = fixed_for c.geometry.page (sectors_of_bank c.geometry c.banks) (device_lengths 0 c) (measures_of c.geometry.page c.blocks).urgent

-- LAWS
-- the numbers of both are apart, and merged they are all
abbrev pub DevicesAreApart : Type 0
DevicesAreApart = (c : Configuration) → IsLegalConfig c → are_apart (device_lengths 0 c) (device_lengths 1 c) ≡ true

abbrev pub DevicesAreAll : Type 0
DevicesAreAll = (c : Configuration) → IsLegalConfig c → merged (device_lengths 0 c) (device_lengths 1 c) ≡ lengths_of c

-- the EEPROM has four sectors for each of its numbers
abbrev pub DevicesHaveSlots : Type 0
DevicesHaveSlots = (c : Configuration) → IsLegalConfig c → AreLengths 0 (device_lengths 1 c) → IfSome c.eeprom (λ g. eeprom.HasSlots (making_second g c))
