-- The figures of the device of a configuration, and the most turns of a job by them.
use Rattle.std.specs.Prelude.{◌≡◌, ℕ, None}
use Rattle.memif_fee_ea.specs.fee_core.nv_base.Geometry.{sectors_of_bank}
use Rattle.nvm_core.specs.block_config.Config.{Configuration}
use Rattle.nvm_core.specs.block_config.Lengths.{lengths_of}
use Rattle.nvm_core.specs.block_config.Rules.{IsLegalConfig}
use Rattle.nvm_core.specs.block_config.Sizes.{measures_of}
use Rattle.memif_fee_ea.specs.fee_core.memif.Told.{Fixed}
use Rattle.nvm_core.specs.block_machine.State.{State, Job}
use Rattle.nvm_core.specs.block_machine.Blocks.{indices_of}
use Rattle.memif_fee_ea.specs.fee_core.fee_told.Figures.{fixed_for}
use Rattle.nvm_core.specs.job_progress.JobInHand.{program_for}
use Rattle.nvm_core.specs.nvm_figures.Left.{most_turns}
use Rattle.nvm_core.specs.nvm_figures.Urgent.{pages_of}
use Rattle.promise_run.specs.JobTurns.{job_turns, write_pages}

-- the figures of its device, made for the configuration
abbrev pub fixed_by : Configuration → Fixed
fixed_by c = fixed_for c.geometry.page (sectors_of_bank c.geometry c.banks) (lengths_of c) (measures_of c.geometry.page c.blocks).urgent

-- LAWS
-- without a second device, the most turns of a job are those of its program by these figures
abbrev pub JobTurnsAreFigures : Type 0
JobTurnsAreFigures = (c : Configuration) → IsLegalConfig c → c.eeprom ≡ None → (s : State) (j : Job) → most_turns (fixed_by c) (program_for c s j) ≡ job_turns c s j

-- and the pages of the records of a write are those by these figures
abbrev pub WritePagesAreFigures : Type 0
WritePagesAreFigures = (c : Configuration) (s : State) (id : ℕ) → pages_of (fixed_by c) id (indices_of c s id) ≡ write_pages c s id
