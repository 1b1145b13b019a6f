use Rattle.std.proofs.Common.{sym}
use Rattle.ea_slots.proofs.Looking.{number_at, size_at, number_none}
use Rattle.ea_slots.proofs.parts.EaParts.find.Goals as goal

pub returns-in-Some-clause-found : goal.returns-in-Some-clause-found
returns-in-Some-clause-found g c = rw c.as_slice.ensures.value (number_at c.self.view_is c.requires c.args.number c.in-Some.place (sym c.in-Some.ensures.value))

pub returns-in-Some-clause-length : goal.returns-in-Some-clause-length
returns-in-Some-clause-length g c = rw c.as_slice.ensures.value (size_at c.self.view_is c.requires c.args.number c.in-Some.place (sym c.in-Some.ensures.value))

pub returns-in-None-clause-found : goal.returns-in-None-clause-found
returns-in-None-clause-found g c = number_none c.self.view_is c.requires c.args.number c.in-None.ensures.place
