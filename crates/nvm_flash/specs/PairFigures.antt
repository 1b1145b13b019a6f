-- The figures of the device of a configuration over a flash and an EEPROM, and what they are by its blocks.
use Rattle.std.specs.Prelude.{◌≡◌, ℕ, false, Some}
use Rattle.memif_fee_ea.specs.fee_core.nv_base.declared.geometry.Geometry.{Geometry}
use Rattle.memif_fee_ea.specs.fee_core.memif.Told.{Fixed, Second}
use Rattle.memif_fee_ea.specs.ea_slots.ea_told.Device as ea
use Rattle.memif_fee_ea.specs.memif_pair.Pair.{fixed_both}
use Rattle.nvm_core.specs.block_config.Config.{Configuration}
use Rattle.nvm_core.specs.block_config.Rules.{IsLegalConfig}
use Rattle.nvm_core.specs.block_machine.State.{State, Job}
use Rattle.nvm_core.specs.block_machine.Blocks.{indices_of}
use Rattle.nvm_core.specs.job_progress.JobInHand.{program_for}
use Rattle.nvm_core.specs.nvm_figures.Left.{most_turns}
use Rattle.nvm_core.specs.nvm_figures.Urgent.{pages_of}
use Rattle.nvm_core.specs.promise_blocks.OverDevice.{is_of}
use Rattle.nvm_core.specs.nvm_laws.Due.{IsFirstBlock}
use Rattle.nvm_core.specs.DeviceWork.{IsSimple, costs_in}
use Rattle.promise_run.specs.JobTurns.{job_turns_of_both, write_pages}
use Rattle.promise_run.specs.Operations.{costs_of_both}
use Rattle.nvm_flash.specs.PairMaking.{fixed_of_first, making_second}

-- those of its banks, and of its slots
abbrev pub fixed_of_pair : Geometry → Configuration → Fixed
fixed_of_pair g c = fixed_both (fixed_of_first c) (ea.fixed_for (making_second g c))

-- over an EEPROM of this shape, which is the configuration's
pub record IsPairOf (g : Geometry) (c : Configuration) : Type 0 where
  pub legal : IsLegalConfig c
  pub second : c.eeprom ≡ Some g

-- LAWS
-- its work is that of the configuration
abbrev pub PairCostsAreFigures : Type 0
PairCostsAreFigures = (g : Geometry) (c : Configuration) → IsPairOf g c → costs_in (fixed_of_pair g c) ≡ costs_of_both c

abbrev pub PairTurnsAreFigures : Type 0
PairTurnsAreFigures = (g : Geometry) (c : Configuration) → IsPairOf g c → (s : State) (j : Job) → most_turns (fixed_of_pair g c) (program_for c s j) ≡ job_turns_of_both c s j

-- and the pages of a write of a block of the first part
abbrev pub PairPagesAreFigures : Type 0
PairPagesAreFigures =
    (g : Geometry) (c : Configuration) → IsPairOf g c → (s : State) (id : ℕ) → is_of Second (fixed_of_pair g c) id ≡ false → pages_of (fixed_of_pair g c) id (indices_of c s id) ≡ write_pages c s id

-- its reads take a turn each, and those of the second part no more turns than their pages
abbrev pub PairsAreSimple : Type 0
PairsAreSimple = (g : Geometry) (c : Configuration) → IsPairOf g c → IsSimple (fixed_of_pair g c)

-- and a block of the first part has all its numbers there
abbrev pub PairBlocksAreWhole : Type 0
PairBlocksAreWhole = (g : Geometry) (c : Configuration) → IsPairOf g c → (id : ℕ) → is_of Second (fixed_of_pair g c) id ≡ false → IsFirstBlock (fixed_of_pair g c) id
