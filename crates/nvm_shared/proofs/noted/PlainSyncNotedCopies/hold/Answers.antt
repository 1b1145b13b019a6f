use Rattle.turn_gate.specs.Pass.{knows}
use Rattle.nvm_shared.proofs.Turning.{same_informed}
use Rattle.nvm_shared.proofs.noted.PlainSyncNotedCopies.hold.Goals as goal

pub returns-clause-informed : goal.returns-clause-informed
returns-clause-informed c = same_informed (knows c.args._pass.now)
