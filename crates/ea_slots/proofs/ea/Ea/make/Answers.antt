use Rattle.std.proofs.Common.{length, ap}
use Rattle.ea_slots.proofs.Beginning.{makes, is_made, has_part}
use Rattle.ea_slots.proofs.ea.Ea.make.Goals as goal

pub invariant_of-result : goal.invariant_of-result
invariant_of-result g c = makes g.O.Origin.making g.O.Origin.entry c.requires.slots c.args.geometry c.args.numbers.now _ c.make-fls.result c.attach.new.self _ _ _ _ _
    c.requires.making c.requires.entry c.make-fls.ensures c.in_default-attach.ensures.attach c.in_default-attach.ensures.ok c.in-Ok.ensures.numbers c.in-Ok.ensures.states c.in-Ok.ensures.content (ap length c.new.ensures) c.new-2.ensures

pub returns-clause-made : goal.returns-clause-made
returns-clause-made g c = is_made g.O.Origin.making g.O.Origin.entry c.args.geometry c.in-Ok.numbers c.attach.new.self c.in-Ok.states c.in-Ok.content _ _ (ap length c.new.ensures) c.new-2.ensures

pub returns-clause-part : goal.returns-clause-part
returns-clause-part g c = has_part g.O.Origin.making g.O.Origin.entry (g.F.Flash.told c.args.flash) c.args.geometry c.make-fls.result c.attach.new.self c.in-Ok.states c.in-Ok.content
    c.requires.entry c.make-fls.ensures c.in_default-attach.ensures.attach
