use Rattle.memif.proofs.Turning.{work_left, IsErasing}
use Rattle.memif.proofs.trials.erase.Given as goal

abbrev pub invariant-loop-device : goal.invariant-loop-device
invariant-loop-device g l = IsErasing l.fn.number.0 l.turns (g.D.MemDevice.told l.fn.device) (g.D.MemDevice.told l.device)

abbrev pub decreases-loop-device : goal.decreases-loop-device
decreases-loop-device g l = work_left (g.D.MemDevice.told l.device)
