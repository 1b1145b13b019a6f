use Rattle.std.proofs.Common.{arith}
use Rattle.fls_model.specs.Laws.{StepsKeepBytes}
use Rattle.fls_model.proofs.Kept.{steps_keep_bytes}
use Rattle.fls_jobs.proofs.fls.Fls.turn.Goals as goal

pub invariant_of-self : goal.invariant_of-self
invariant_of-self g c = grind (arith, steps_keep_bytes)

pub invariant_of-self-2 : goal.invariant_of-self-2
invariant_of-self-2 g c = let law : StepsKeepBytes = steps_keep_bytes in grind (arith, law)
