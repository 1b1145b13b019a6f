use Rattle.std.proofs.Common.{refl}
use Rattle.block_config.proofs.Numbering.{length-lengths_from}
use Rattle.block_config.proofs.config.Config.instances.Goals as goal

pub returns-clause-count : goal.returns-clause-count
returns-clause-count c = rw (← c.self.view_is, c.self.invariant.measured, length-lengths_from) refl
