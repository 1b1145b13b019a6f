use Rattle.memif.specs.Trials.{Lasts}
use Rattle.memif.proofs.Turning.{work_left}
use Rattle.memif.proofs.trials.make_turns.Given as goal

abbrev pub invariant-loop-device : goal.invariant-loop-device
invariant-loop-device g l = Lasts (g.D.MemDevice.told l.fn.device) (g.D.MemDevice.clock l.fn.device) (g.D.MemDevice.told l.device) (g.D.MemDevice.clock l.device)

abbrev pub decreases-loop-device : goal.decreases-loop-device
decreases-loop-device g l = work_left (g.D.MemDevice.told l.device)
