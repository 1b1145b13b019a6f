use Rattle.std.proofs.Common.{arith}
use Rattle.nvm_script.proofs.TextLaws.{adds_no_digits, adds_digits}
use Rattle.nvm_script.proofs.text.Text.pairs.Goals as goal

pub loop-i-init : goal.loop-i-init
loop-i-init c = adds_no_digits

pub loop-i-preserved : goal.loop-i-preserved
loop-i-preserved c = adds_digits c.args.bytes.now c.loop-i.i (omega arith) c.loop-i.invariant c.pair.ensures
