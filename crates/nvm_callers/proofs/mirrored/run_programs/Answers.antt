use Rattle.nvm_callers.proofs.Common.{List, subst, Configuration, Step, AreProgramsOf, KeepsOrder}
use Rattle.std.specs.Prelude.{IfOk}
use Rattle.nvm_callers.proofs.mirrored.run_programs.Goals as goal

-- src/mirrored.rt:27:1
pub returns-in-Ok-clause-order : goal.returns-in-Ok-clause-order
returns-in-Ok-clause-order g c =
    subst (λ (k : Configuration). IfOk c.run_mirrored.result (λ r. (steps : List Step) → AreProgramsOf k steps c.args.programs.now → KeepsOrder steps r.ending r.desk)) c.requires.begun.config c.run_mirrored.ensures.order
