use Rattle.std.proofs.Common.{◌≡◌, true}
use Rattle.nvm.specs.Unit.{Stays}
use Rattle.unit_example.proofs.odometer.OdometerUnit.run.Given as goal

abbrev pub invariant-loop-left : goal.invariant-loop-left
invariant-loop-left g l = record { ready : l.stack.ready ≡ true; stays : Stays l.fn.stack l.stack }
