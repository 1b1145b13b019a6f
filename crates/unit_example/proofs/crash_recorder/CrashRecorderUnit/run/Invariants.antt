use Rattle.std.proofs.Common.{◌≡◌, true}
use Rattle.nvm.specs.Unit.{Stays}
use Rattle.unit_example.proofs.crash_recorder.CrashRecorderUnit.run.Given as goal

abbrev pub invariant-loop-crash : goal.invariant-loop-crash
invariant-loop-crash g l = record { ready : l.stack.ready ≡ true; stays : Stays l.fn.stack l.stack }
