use Rattle.std.proofs.Common.{arith}
use Rattle.nvm_script.specs.Lines.{found_text}
use Rattle.nvm_script.proofs.TextLaws.{adds_next}
use Rattle.nvm_script.proofs.text.Text.all_found.Goals as goal
use Rattle.nvm_script.proofs.text.Text.all_found.Goals.{in-Some, in_default}

pub loop-i-preserved : goal.loop-i-preserved
loop-i-preserved c = elim c.match-get.branch [
  | in-Some w ↦ rw w.self-is (adds_next found_text c.args.marks.now c.loop-i.i _ w.in-Some.ensures c.loop-i.invariant w.found.ensures)
  | in_default w ↦ absurd (omega arith)
]
