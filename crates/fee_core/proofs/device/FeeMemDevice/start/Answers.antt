use Rattle.std.proofs.Common.{subst}
use Rattle.memif.specs.Calls.{StartsUp}
use Rattle.fee_laws.specs.fee_told.Device.{Device, told_of}
use Rattle.fee_laws.specs.Inside.{device_of}
use Rattle.fee_core.specs.Tells.{told_clock}
use Rattle.fee_core.proofs.Telling.{starts_told}
use Rattle.fee_core.proofs.device.FeeMemDevice.start.Goals as goal

pub returns : goal.returns
returns g c =
    let t = device_of g.O.Origin.making g.O.Origin.entry c.start.new.self.parts in
    let old = device_of g.O.Origin.making g.O.Origin.entry c.self.inside.parts.parts in
    let own : StartsUp c.start.result (told_of old) (told_clock old) (told_of t) (told_clock t) = starts_told c.start.result (told_of old) (told_of t) old t c.start.ensures.start in
    subst (λ (d : Device). StartsUp c.start.result (told_of d) (told_clock d) (told_of t) (told_clock t)) c.self.view_is own
