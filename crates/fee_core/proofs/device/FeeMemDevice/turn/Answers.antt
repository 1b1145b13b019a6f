use Rattle.std.proofs.Common.{subst}
use Rattle.memif.specs.Calls.{Turns}
use Rattle.fee_laws.specs.fee_told.Device.{Device, told_of}
use Rattle.fee_laws.specs.fee_told.Turns.{TakesTurn}
use Rattle.fee_laws.specs.Inside.{device_of}
use Rattle.fee_core.specs.Tells.{told_clock}
use Rattle.fee_core.proofs.Telling.{turns_told}
use Rattle.fee_core.proofs.device.FeeMemDevice.turn.Goals as goal

pub returns-clause-turn : goal.returns-clause-turn
returns-clause-turn g c =
    let t = device_of g.O.Origin.making g.O.Origin.entry c.turn.new.self.parts in
    let old = device_of g.O.Origin.making g.O.Origin.entry c.self.inside.parts.parts in
    let own : Turns c.turn.result (told_of old) (told_clock old) (told_of t) (told_clock t) = turns_told c.turn.result (told_of old) (told_of t) old t c.turn.ensures.turns in
    subst (λ (d : Device). Turns c.turn.result (told_of d) (told_clock d) (told_of t) (told_clock t)) c.self.view_is own

pub returns-clause-takes : goal.returns-clause-takes
returns-clause-takes g c = subst (λ (d : Device). TakesTurn c.turn.result d (device_of g.O.Origin.making g.O.Origin.entry c.turn.new.self.parts)) c.self.view_is c.turn.ensures.takes
