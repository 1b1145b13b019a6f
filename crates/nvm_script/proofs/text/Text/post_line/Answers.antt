use Rattle.std.proofs.Common.{sym}
use Rattle.nvm_script.proofs.TextLaws.{adds_then}
use Rattle.nvm_script.proofs.text.Text.post_line.Goals as goal

pub returns : goal.returns
returns c =
    rw (sym c.result_code.ensures) (adds_then c.word.ensures (adds_then c.number.ensures (adds_then c.word-2.ensures (adds_then c.number-2.ensures (adds_then c.given.ensures (adds_then c.refused.ensures c.ops.ensures))))))
