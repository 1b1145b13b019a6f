use Rattle.std.proofs.Common.{◌≡◌, true}
use Rattle.nvm.specs.Unit.{Stays}
use Rattle.unit_example.proofs.crash_recorder.cycles.Given as goal

abbrev pub invariant-loop-cycle : goal.invariant-loop-cycle
invariant-loop-cycle g l = record { ready : l.stack.ready ≡ true; stays : Stays l.fn.stack l.stack }
