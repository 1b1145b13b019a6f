use Rattle.std.proofs.Common.{subst}
use Rattle.memif.specs.Calls.{Turns}
use Rattle.ea_told.proofs.Turns.{parts_turn}
use Rattle.ea_slots.specs.Whole.{Device, told_in, clock_in}
use Rattle.ea_slots.proofs.device.EaMemDevice.turn.Goals as goal

pub invariant_of-self : goal.invariant_of-self
invariant_of-self g c = (parts_turn g.O.Origin.making g.O.Origin.entry c.turn.result c.self.inside.parts c.turn.new.self c.self.invariant c.turn.ensures).sound

pub returns : goal.returns
returns g c =
    let t : Device = record { making = g.O.Origin.making; entry = g.O.Origin.entry; parts = c.turn.new.self } in
    subst (λ (d : Device). Turns c.turn.result (told_in d) (clock_in d) (told_in t) (clock_in t)) c.self.view_is
    (parts_turn g.O.Origin.making g.O.Origin.entry c.turn.result c.self.inside.parts c.turn.new.self c.self.invariant c.turn.ensures).turns
