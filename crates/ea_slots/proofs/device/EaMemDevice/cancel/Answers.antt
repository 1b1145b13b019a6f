use Rattle.std.proofs.Common.{subst}
use Rattle.memif.specs.Calls.{Cancels}
use Rattle.ea_slots.specs.Whole.{Device, told_in, clock_in}
use Rattle.ea_slots.proofs.Telling.{cancels}
use Rattle.ea_slots.proofs.device.EaMemDevice.cancel.Goals as goal

pub invariant_of-self : goal.invariant_of-self
invariant_of-self g c = (cancels g.O.Origin.making g.O.Origin.entry c.self.inside.parts c.cancel.new.self c.self.invariant c.cancel.ensures.open c.cancel.ensures.none).0

pub returns : goal.returns
returns g c =
    let t : Device = record { making = g.O.Origin.making; entry = g.O.Origin.entry; parts = c.cancel.new.self } in
    subst (λ (d : Device). Cancels (told_in d) (clock_in d) (told_in t) (clock_in t)) c.self.view_is
    (cancels g.O.Origin.making g.O.Origin.entry c.self.inside.parts c.cancel.new.self c.self.invariant c.cancel.ensures.open c.cancel.ensures.none).1
