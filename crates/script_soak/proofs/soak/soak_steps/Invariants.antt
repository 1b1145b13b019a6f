use Rattle.std.proofs.Common.{◌≡◌, ◌*◌}
use Rattle.script_soak.specs.Draws.{state_after}
use Rattle.script_soak.specs.Soak.{rounds}
use Rattle.script_soak.proofs.soak.soak_steps.Given as goal

abbrev pub invariant-loop-round : goal.invariant-loop-round
invariant-loop-round l = record { steps : l.steps ≡ rounds l.config l.seed l.round; state : l.draws.state ≡ state_after l.seed (3 * l.round) }
