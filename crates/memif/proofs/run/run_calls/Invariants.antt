use Rattle.std.proofs.Common.{take, List}
use Rattle.memif.specs.Run.{IsUrgentKnown, Made}
use Rattle.memif.proofs.Runs.{IsKept}
use Rattle.memif.proofs.run.run_calls.Given as goal

abbrev pub invariant-loop-call : goal.invariant-loop-call
invariant-loop-call g l = record {
  urgent : IsUrgentKnown l.urgent (g.D.MemDevice.told l.device).stand;
  kept : (run : List Made) × IsKept (g.D.MemDevice.told l.fn.device) (take l.call-index l.calls) l.steps.items run (g.D.MemDevice.told l.device) (g.D.MemDevice.clock l.device);
}
