use Rattle.std.proofs.Common.{subst}
use Rattle.memif.specs.Calls.{StartsUp}
use Rattle.ea_told.proofs.Starting.{parts_start}
use Rattle.ea_slots.specs.Whole.{Device, told_in, clock_in}
use Rattle.ea_slots.proofs.device.EaMemDevice.start.Goals as goal

pub invariant_of-self : goal.invariant_of-self
invariant_of-self g c = (parts_start g.O.Origin.making g.O.Origin.entry c.start.result c.self.inside.parts c.start.new.self c.self.invariant c.start.ensures).1

pub returns : goal.returns
returns g c =
    let t : Device = record { making = g.O.Origin.making; entry = g.O.Origin.entry; parts = c.start.new.self } in
    subst (λ (d : Device). StartsUp c.start.result (told_in d) (clock_in d) (told_in t) (clock_in t)) c.self.view_is
    (parts_start g.O.Origin.making g.O.Origin.entry c.start.result c.self.inside.parts c.start.new.self c.self.invariant c.start.ensures).0
