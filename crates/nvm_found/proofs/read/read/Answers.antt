use Rattle.std.proofs.Common.{sym, ◌∙◌}
use Rattle.nvm_found.proofs.Readings.{begins, turns_on}
use Rattle.nvm_found.proofs.read.read.Goals as goal

pub loop-device-init : goal.loop-device-init
loop-device-init g c = begins _ _ _ _ _ _ c.start_read-taken.result c.requires.ready c.requires.configured c.start_read-taken.ensures

pub loop-device-preserved : goal.loop-device-preserved
loop-device-preserved g c = turns_on _ _ _ _ _ _ _ _ c.loop-device.invariant c.requires.configured (sym c.is_pending.ensures ∙ c.loop-device-test.true) c.turn.result c.turn.ensures
