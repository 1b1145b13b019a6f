use Rattle.std.proofs.Common.{take}
use Rattle.nvm_script.specs.Values.{AreMarkValues}
use Rattle.nvm_script.proofs.values.marks_value.Given as goal

abbrev pub invariant-loop-i : goal.invariant-loop-i
invariant-loop-i l = AreMarkValues (take l.i l.marks)
