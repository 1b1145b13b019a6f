use Rattle.std.proofs.Common.{subst}
use Rattle.memif.specs.Calls.{Arms}
use Rattle.fee_laws.specs.fee_told.Device.{Device, told_of}
use Rattle.fee_laws.specs.Inside.{device_of}
use Rattle.fee_core.specs.Tells.{told_clock}
use Rattle.fee_core.proofs.Telling.{stays_told}
use Rattle.fee_core.proofs.device.FeeMemDevice.arm.Goals as goal

pub returns : goal.returns
returns g c =
    let t = device_of g.O.Origin.making g.O.Origin.entry c.arm.new.self.parts in
    let old = device_of g.O.Origin.making g.O.Origin.entry c.self.inside.parts.parts in
    let own : Arms c.args.which c.args.nth c.args.keep (told_of old) (told_clock old) (told_of t) (told_clock t) = (c.arm.ensures.arms.0, stays_told (told_of t) old t c.arm.ensures.arms.1) in
    subst (λ (d : Device). Arms c.args.which c.args.nth c.args.keep (told_of d) (told_clock d) (told_of t) (told_clock t)) c.self.view_is own
