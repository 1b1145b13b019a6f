use Rattle.std.proofs.Common.{sym}
use Rattle.nvm_script.proofs.TextLaws.{adds_then}
use Rattle.nvm_script.proofs.text.Text.pick_line.Goals as goal

pub returns : goal.returns
returns c =
    rw (sym c.job_word.ensures) (adds_then c.word.ensures (adds_then c.number.ensures (adds_then c.word-2.ensures (adds_then c.word-3.ensures (adds_then c.taken.ensures c.ops.ensures)))))
