use Rattle.std.proofs.Common.{take}
use Rattle.hex.specs.Hex.{encode_lower}
use Rattle.nvm_script.specs.Text.{Adds}
use Rattle.nvm_script.proofs.text.Text.pairs.Given as goal

abbrev pub invariant-loop-i : goal.invariant-loop-i
invariant-loop-i l = Adds (encode_lower (take l.i l.bytes)) l.initial.self l.self
