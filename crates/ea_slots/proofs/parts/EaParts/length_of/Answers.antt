use Rattle.ea_slots.proofs.Looking.{figures_found}
use Rattle.ea_slots.proofs.parts.EaParts.length_of.Goals as goal

pub returns-in-Some : goal.returns-in-Some
returns-in-Some g c = figures_found g.O.Origin.making c.args.number c.in-Some.found.0 c.in-Some.found.1 c.in-Some.ensures.found
