use Rattle.nvm_script.proofs.TextLaws.{adds_then}
use Rattle.nvm_script.proofs.text.Text.taken.Goals as goal

pub returns-in-Content : goal.returns-in-Content
returns-in-Content c = rw c.in-Content.is (search adds_then depth 5)

pub returns-in-Refused : goal.returns-in-Refused
returns-in-Refused c = rw c.in-Refused.is (search adds_then depth 5)

pub returns-in-Stale : goal.returns-in-Stale
returns-in-Stale c = rw c.in-Stale.is (search adds_then depth 6)
