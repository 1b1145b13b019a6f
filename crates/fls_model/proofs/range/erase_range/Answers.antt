use Rattle.std.proofs.Common.{arith}
use Rattle.std.proofs.lemmas.Grind.{common_steps}
use Rattle.fls_model.proofs.Within.{within_erase}
use Rattle.fls_model.proofs.range.erase_range.Goals as goal

pub returns-clause-within : goal.returns-clause-within
returns-clause-within c = within_erase _ _ _ _ (grind (arith, common_steps)) c.requires c.below_256.ensures
