use Rattle.nvm_script.proofs.TextLaws.{adds_then}
use Rattle.nvm_script.proofs.text.Text.summary_lines.Goals as goal

pub returns : goal.returns
returns c = adds_then c.head_lines.ensures (adds_then c.result_lines.ensures (adds_then c.word.ensures (adds_then c.number.ensures c.word-2.ensures)))
