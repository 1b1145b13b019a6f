use Rattle.ram_mirrors.specs.Ends.{IsTakerOf}
use Rattle.nvm_tests.proofs.mirrors.take_all.Given as goal

abbrev pub invariant-loop : goal.invariant-loop
invariant-loop l = IsTakerOf l.mirror l.taker
