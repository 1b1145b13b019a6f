use Rattle.nvm_script.proofs.TextLaws.{adds_then}
use Rattle.nvm_script.proofs.text.Text.given.Goals as goal

pub returns-in-Some : goal.returns-in-Some
returns-in-Some c = rw c.in-Some.is (adds_then c.word.ensures c.content.ensures)
