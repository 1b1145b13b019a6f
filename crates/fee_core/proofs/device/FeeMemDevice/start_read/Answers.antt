use Rattle.std.proofs.Common.{Some, None, false, subst}
use Rattle.memif.specs.Calls.{Accepts}
use Rattle.fee_laws.specs.fee_told.Device.{Device, told_of}
use Rattle.fee_laws.specs.Inside.{device_of}
use Rattle.fee_core.specs.Tells.{told_clock}
use Rattle.fee_core.proofs.Telling.{stays_told}
use Rattle.fee_core.proofs.device.FeeMemDevice.start_read.Goals as goal

pub returns : goal.returns
returns g c =
    let t = device_of g.O.Origin.making g.O.Origin.entry c.start_read.new.self.parts in
    let old = device_of g.O.Origin.making g.O.Origin.entry c.self.inside.parts.parts in
    let own : Accepts (record { job = record { number = c.args.number.0; mark = None; urgent = false }; length = Some c.args.length }) c.start_read.result (told_of old) (told_clock old) (told_of t) (told_clock t) = (c.start_read.ensures.accepts.0, stays_told (told_of t) old t c.start_read.ensures.accepts.1) in
    subst (λ (d : Device). Accepts (record { job = record { number = c.args.number.0; mark = None; urgent = false }; length = Some c.args.length }) c.start_read.result (told_of d) (told_clock d) (told_of t) (told_clock t)) c.self.view_is own
