use Rattle.memif.specs.declared.answer.DeviceTurn.TheVariants.{Worked}
use Rattle.memif.proofs.Turning.{lasts_on}
use Rattle.memif.proofs.trials.make_turns.Goals as goal

pub returns-then-left-clause-lasts : goal.returns-then-left-clause-lasts
returns-then-left-clause-lasts g c = lasts_on Worked _ _ _ _ _ _ c.loop-device.invariant (rw c.in-Worked.is at c.turn.ensures)

pub loop-device-preserved : goal.loop-device-preserved
loop-device-preserved g c = lasts_on Worked _ _ _ _ _ _ c.loop-device.invariant (rw c.in-Worked.is at c.turn.ensures)
