-- The first start-up of a stack over a flash and an EEPROM.
use Rattle.std.specs.Prelude.{◌≡◌, ℕ, None}
use Rattle.memif_fee_ea.specs.fee_core.nv_base.declared.geometry.Geometry.{Geometry}
use Rattle.nvm_core.specs.block_config.Config.{Configuration}
use Rattle.nvm_core.specs.memif.Told.{Part, PartTold, DeviceTold, First, Second}
use Rattle.nvm_core.specs.memif.Clock.{Clock}
use Rattle.nvm_core.specs.memif.Calls.{InOrder}
use Rattle.memif_fee_ea.specs.fee_core.fls_model.Told.{Told}
use Rattle.memif_fee_ea.specs.fee_core.promise_device.Making as flash
use Rattle.memif_fee_ea.specs.fee_core.fee_told.Device as fee
use Rattle.memif_fee_ea.specs.fee_core.Tells.{told_clock}
use Rattle.memif_fee_ea.specs.fee_core.fee_laws.Made as fee_made
use Rattle.memif_fee_ea.specs.ea_slots.ea_told.Making as eeprom
use Rattle.memif_fee_ea.specs.ea_slots.Whole as ea
use Rattle.memif_fee_ea.specs.memif_pair.Both.{BothState, clock_as, told_as}
use Rattle.nvm_core.specs.nvm_device_laws.Turn.{BeginsKept}
use Rattle.nvm_core.specs.nvm_device_laws.Pairing.{IsFor}
use Rattle.nvm_core.specs.Stack.{StackState}
use Rattle.nvm_core.specs.StartUps.{StartsUp, StartsKeep}
use Rattle.nvm_core.specs.nvm_laws.Keeps.{StackKeepsAsTold}
use Rattle.nvm_core.specs.nvm_laws.declared.turned.FoundAnswer.TheVariants as found
use Rattle.nvm_flash.specs.PairMade.{IsPairStack}
use Rattle.nvm_flash.specs.PairMaking.{making_second}
use Rattle.nvm_flash.specs.PairFigures.{IsPairOf, fixed_of_pair}

-- what is told of the device, and its clock
abbrev pub pair_told : BothState fee.Device ea.Device → DeviceTold
pair_told = told_as fee.told_of ea.told_in

abbrev pub pair_clock : BothState fee.Device ea.Device → Clock
pair_clock = clock_as told_clock ea.told_in ea.clock_in

-- what its parts told before its first call
abbrev pub parts_before : (entry entry_other : Told) → Part → PartTold
parts_before entry entry_other First = fee_made.part_at entry
parts_before entry entry_other Second = ea.part_at entry_other

-- LAWS
-- the device of a stack that was made has the figures of its configuration, and is for that
abbrev pub PairsHaveFigures : Type 1
PairsHaveFigures =
    (C : Type 0) (g : Geometry) (c : Configuration) (most : ℕ) (m : flash.Making) (entry : Told) (n : eeprom.Making) (entry_other : Told) (copies : C) (s : StackState (BothState fee.Device ea.Device) C)
    → IsPairStack c most m entry n entry_other copies s → n ≡ making_second g c → (pair_told s.device).fixed ≡ fixed_of_pair g c

abbrev pub PairsAreFor : Type 1
PairsAreFor =
    (C : Type 0) (g : Geometry) (c : Configuration) (most : ℕ) (m : flash.Making) (entry : Told) (n : eeprom.Making) (entry_other : Told) (copies : C) (s : StackState (BothState fee.Device ea.Device) C)
    → IsPairStack c most m entry n entry_other copies s → IsPairOf g c → n ≡ making_second g c → IsFor c (pair_told s.device)

-- behind the first start-up all is kept, by both parts
abbrev pub PairsBeginUp : Type 1
PairsBeginUp =
    (C : Type 0) (m : flash.Making) (entry : Told) (n : eeprom.Making) (entry_other : Told) (old s : StackState (BothState fee.Device ea.Device) C)
    → IsPairStack old.desk.config old.desk.cap m entry n entry_other old.copies old → BeginsKept (pair_told old.device) (pair_clock old.device) → InOrder (pair_told old.device) (pair_clock old.device)
    → IsFor old.desk.config (pair_told old.device) → StartsUp pair_told old s
    → StartsKeep found.Ready old.desk (pair_told old.device) (pair_clock old.device) s.desk (pair_told s.device) (pair_clock s.device)
    → StackKeepsAsTold (parts_before entry entry_other) s.desk None (pair_told s.device) (pair_clock s.device)
