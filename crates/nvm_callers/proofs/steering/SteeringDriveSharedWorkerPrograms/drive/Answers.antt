use Rattle.nvm_callers.proofs.Common.{arith}
use Rattle.nvm_callers.proofs.steering.SteeringDriveSharedWorkerPrograms.drive.Goals as goal

pub returns-clause-each : goal.returns-clause-each
returns-clause-each g c = λ place d low. ((c.steer.ensures.ready place d (omega (arith, low, c.steer.ensures.count))).0, c.steer.ensures.on place d low)
