use Rattle.std.proofs.Common.{get_or}
use Rattle.nvm_script.specs.Summary.{result_line}
use Rattle.nvm_script.proofs.TextLaws.{adds_line}
use Rattle.nvm_script.proofs.text.Text.result_lines.Goals as goal

pub loop-code-preserved : goal.loop-code-preserved
loop-code-preserved c = adds_line (λ code. result_line code (get_or c.args.results.now code 0)) c.loop-code.code c.loop-code.invariant c.result_line.ensures
