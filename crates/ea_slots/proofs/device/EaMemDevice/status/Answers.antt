use Rattle.std.proofs.Common.{subst}
use Rattle.memif.specs.Calls.{InOrder, FreesReady, RoomIsLeft}
use Rattle.ea_told.proofs.Order.{parts_order}
use Rattle.ea_slots.specs.Whole.{Device, told_in, clock_in}
use Rattle.ea_slots.proofs.device.EaMemDevice.status.Goals as goal

pub returns-clause-order : goal.returns-clause-order
returns-clause-order g c = subst (λ (d : Device). InOrder (told_in d) (clock_in d)) c.self.view_is (parts_order g.O.Origin.making g.O.Origin.entry c.self.inside.parts c.self.invariant).order

pub returns-clause-ready : goal.returns-clause-ready
returns-clause-ready g c = subst (λ (d : Device). FreesReady (told_in d) (clock_in d)) c.self.view_is (parts_order g.O.Origin.making g.O.Origin.entry c.self.inside.parts c.self.invariant).ready

pub returns-clause-room : goal.returns-clause-room
returns-clause-room g c = subst (λ (d : Device). RoomIsLeft (told_in d) (clock_in d)) c.self.view_is (parts_order g.O.Origin.making g.O.Origin.entry c.self.inside.parts c.self.invariant).room
