use Rattle.ea_slots.proofs.Settled.{shows}
use Rattle.ea_slots.proofs.parts.EaParts.mark_kind.Goals as goal

pub returns-in-Some : goal.returns-in-Some
returns-in-Some g c = shows g.O.Origin.making g.O.Origin.entry c.args.self.now c.args.number c.in-Some.found.0 c.in-Some.found.1 c.kind.result c.in-Some.ensures.found c.in-Some.ensures.length c.kind.ensures
