use Rattle.std.proofs.Common.{take}
use Rattle.nvm_script.specs.Counts.{AreCounts}
use Rattle.nvm_script.proofs.counts.counts_of.Given as goal

abbrev pub invariant-loop-i : goal.invariant-loop-i
invariant-loop-i l = AreCounts (take l.i l.history.entries) l.counts
