use Rattle.std.proofs.Common.{refl}
use Rattle.ea_slots.proofs.Opening.{its_content, opens_as}
use Rattle.ea_slots.proofs.Telling.{stays}
use Rattle.ea_slots.proofs.parts.EaParts.take_job.Goals as goal

pub open-requires-clause-content : goal.open-requires-clause-content
open-requires-clause-content g c = its_content c.in-Ok.job c.args.number c.args.op c.args.urgent c.args.wanted c.args.content.now c.in-Ok.ensures.shape c.requires.content c.in-Ok.ensures.content

pub returns-in-Ok-clause-accepts : goal.returns-in-Ok-clause-accepts
returns-in-Ok-clause-accepts g c = ((c.in-Ok.ensures.refusal, opens_as c.in-Ok.job c.args.number c.args.op c.args.urgent c.args.content.now _ _ c.in-Ok.ensures.shape c.open.ensures.opens), c.open.ensures.stays)

pub returns-in-Err-clause-accepts : goal.returns-in-Err-clause-accepts
returns-in-Err-clause-accepts g c = ((c.in-Err.ensures.refusal, refl), stays g.O.Origin.making g.O.Origin.entry c.args.self.now c.requires.sound)
