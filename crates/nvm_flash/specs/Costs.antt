-- What the device of a configuration makes of its work at most.
use Rattle.std.specs.Prelude.{◌≡◌, ◌≤◌, ℕ, None, if◌then◌else◌}
use Rattle.nvm_core.specs.block_config.Config.{Configuration}
use Rattle.nvm_core.specs.block_config.Rules.{IsLegalConfig}
use Rattle.memif_fee_ea.specs.fee_core.memif.Told.{Fixed, figures_at, most_of}
use Rattle.nvm_core.specs.job_programs.Program.{operation, works}
use Rattle.nvm_core.specs.promise_blocks.Work.{Costs}
use Rattle.promise_run.specs.Operations.{costs_of}
use Rattle.nvm_flash.specs.Turns.{fixed_by}

-- by the figures of a device
abbrev pub costs_by : Fixed → Costs
costs_by f = record {
  switch = f.own;
  pages = λ n. (figures_at f n).pages;
  most = λ kind n. if works kind then most_of (figures_at f n) (operation kind) else 0;
  reserve = f.reserve;
}

-- LAWS
-- without a second device it is that of the configuration, and a read takes one turn
abbrev pub CostsAreFigures : Type 0
CostsAreFigures = (c : Configuration) → IsLegalConfig c → c.eeprom ≡ None → costs_by (fixed_by c) ≡ costs_of c

abbrev pub ReadsTakeOne : Type 0
ReadsTakeOne = (c : Configuration) (n : ℕ) → (figures_at (fixed_by c) n).read ≤ 1
