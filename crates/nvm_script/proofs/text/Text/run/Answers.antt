use Rattle.nvm_script.proofs.TextLaws.{adds_then}
use Rattle.nvm_script.proofs.text.Text.run.Goals as goal

pub returns : goal.returns
returns c = search adds_then depth 5
