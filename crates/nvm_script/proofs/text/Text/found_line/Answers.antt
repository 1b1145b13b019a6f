use Rattle.std.proofs.Common.{sym}
use Rattle.nvm_script.proofs.TextLaws.{adds_then}
use Rattle.nvm_script.proofs.text.Text.found_line.Goals as goal

pub returns : goal.returns
returns c = rw (sym c.len.ensures.count) (adds_then c.word.ensures (adds_then c.number.ensures (adds_then c.all_found.ensures c.ops.ensures)))
