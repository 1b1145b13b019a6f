use Rattle.std.proofs.Common.{arith}
use Rattle.std.proofs.lemmas.Grind.{common_steps}
use Rattle.fls_model.proofs.Within.{within_program}
use Rattle.fls_model.proofs.range.program_range.Goals as goal

pub returns-clause-within : goal.returns-clause-within
returns-clause-within c = within_program _ _ _ _ (grind (arith, common_steps)) c.requires (λ old. c.below_256.ensures)
