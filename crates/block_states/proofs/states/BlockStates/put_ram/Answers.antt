use Rattle.std.proofs.Common.{◌∙◌}
use Rattle.block_states.proofs.Shown.{content_changed, room_at}
use Rattle.block_states.proofs.states.BlockStates.put_ram.Goals as goal

pub returns : goal.returns
returns c = rw (← c.self.view_is, c.put.ensures)
    (content_changed c.self.inside.started c.self.inside.facts.items c.self.inside.ram c.args.id c.args.content.now c.self.invariant
    ((rw (← c.self.view_is) at c.requires) ∙ room_at c.self.inside.ram c.args.id))
