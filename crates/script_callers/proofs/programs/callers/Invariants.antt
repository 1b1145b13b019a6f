use Rattle.std.proofs.Common.{take}
use Rattle.script_callers.specs.Counting.{AreMade}
use Rattle.script_callers.proofs.programs.callers.Given as goal

abbrev pub invariant-loop-place : goal.invariant-loop-place
invariant-loop-place l = AreMade l.config (take l.place l.steps) l.counts l.programs.items
