use Rattle.turn_gate.specs.Pass.{IsFree}
use Rattle.nvm_tests.proofs.lock.work.Given as goal

abbrev pub invariant-loop-round : goal.invariant-loop-round
invariant-loop-round g l = IsFree l.gate 1 l.worker.pass
