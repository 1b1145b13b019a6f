use Rattle.std.proofs.Common.{take}
use Rattle.std.specs.List.{flat_map}
use Rattle.nvm_script.specs.Text.{Adds}
use Rattle.nvm_script.specs.Lines.{found_text}
use Rattle.nvm_script.proofs.text.Text.all_found.Given as goal

abbrev pub invariant-loop-i : goal.invariant-loop-i
invariant-loop-i l = Adds (flat_map found_text (take l.i l.marks)) l.initial.self l.self
