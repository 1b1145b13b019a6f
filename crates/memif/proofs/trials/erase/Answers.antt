use Rattle.std.proofs.Common.{sym, ◌∙◌, arith}
use Rattle.memif.proofs.Turning.{goes_on}
use Rattle.memif.proofs.trials.erase.Goals as goal

pub loop-device-preserved : goal.loop-device-preserved
loop-device-preserved g c =
    let turned = rw c.in-Worked.is at c.turn.ensures in
    goes_on _ c.loop-device.turns _ _ _ _ _ turned.0.1.0 c.loop-device.invariant (sym c.is_pending.ensures ∙ c.loop-device-test.true) turned.0.1.1 (omega (arith, c.saturating_add-turns.ensures))
