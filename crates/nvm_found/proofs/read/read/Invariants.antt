use Rattle.nvm_found.specs.Reading.{IsReading}
use Rattle.nvm_found.proofs.Readings.{reading_left}
use Rattle.nvm_found.proofs.read.read.Given as goal

abbrev pub invariant-loop-device : goal.invariant-loop-device
invariant-loop-device g l = IsReading l.fn.number.0 l.fn.length (g.D.MemDevice.told l.fn.device) (g.D.MemDevice.clock l.fn.device) (g.D.MemDevice.told l.device) (g.D.MemDevice.clock l.device)

abbrev pub decreases-loop-device : goal.decreases-loop-device
decreases-loop-device g l = reading_left (g.D.MemDevice.told l.device)
