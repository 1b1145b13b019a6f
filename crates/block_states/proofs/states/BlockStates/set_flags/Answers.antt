use Rattle.block_states.proofs.Shown.{flags_changed}
use Rattle.block_states.proofs.states.BlockStates.set_flags.Goals as goal

pub returns : goal.returns
returns c = rw (← c.self.view_is, c.set_flags.ensures)
    (flags_changed c.self.inside.started c.self.inside.facts.items c.self.inside.ram c.args.id c.args.flags c.self.invariant)
