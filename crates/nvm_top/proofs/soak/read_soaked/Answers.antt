use Rattle.nvm_top.proofs.Soaks.{step_stops}
use Rattle.nvm_top.proofs.soak.read_soaked.Goals as goal

pub returns-in-Some-clause-err : goal.returns-in-Some-clause-err
returns-in-Some-clause-err g c =
    rw c.line.ensures (step_stops (g.S.Source.left c.args.input.now) c.in_ok-config.field-0.config c.in_ok-config.field-0.steps c.in-Some.step.now c.in-Some.ensures c.in_ok-config.ensures.steps)
