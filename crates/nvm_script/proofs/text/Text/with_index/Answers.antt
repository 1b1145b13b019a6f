use Rattle.nvm_script.proofs.TextLaws.{adds_then}
use Rattle.nvm_script.proofs.text.Text.with_index.Goals as goal

pub returns : goal.returns
returns c = search adds_then depth 8
