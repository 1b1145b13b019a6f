use Rattle.std.proofs.Common.{refl, arith}
use Rattle.block_config.proofs.head.page_at.Goals as goal

pub returns-in-64-clause-size : goal.returns-in-64-clause-size
returns-in-64-clause-size c = (2, omega arith, refl)

pub returns-in-128-clause-size : goal.returns-in-128-clause-size
returns-in-128-clause-size c = (3, omega arith, refl)
