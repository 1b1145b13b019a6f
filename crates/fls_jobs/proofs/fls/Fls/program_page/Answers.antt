use Rattle.std.proofs.Common.{arith}
use Rattle.fls_model.proofs.Kept.{steps_keep_bytes}
use Rattle.fls_jobs.proofs.fls.Fls.program_page.Goals as goal

pub invariant_of-self : goal.invariant_of-self
invariant_of-self g c = grind (arith, steps_keep_bytes)

pub returns-clause-after : goal.returns-clause-after
returns-clause-after g c = grind (arith, steps_keep_bytes)
