use Rattle.std.proofs.Common.{refl}
use Rattle.turn_gate.proofs.gate.Gate+V.arrive_soon.Goals as goal

pub loop-init : goal.loop-init
loop-init g c = (c.args.pass.now.me.0.served, refl, refl)
