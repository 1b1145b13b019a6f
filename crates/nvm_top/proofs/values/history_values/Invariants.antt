use Rattle.std.proofs.Common.{take}
use Rattle.script_player.specs.script_walks.Texts.{AreValues}
use Rattle.nvm_top.proofs.values.history_values.Given as goal

abbrev pub invariant-loop-i : goal.invariant-loop-i
invariant-loop-i l = AreValues (take l.i l.history.entries)
