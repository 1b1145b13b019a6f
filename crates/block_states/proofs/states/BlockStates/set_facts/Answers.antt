use Rattle.block_states.proofs.Shown.{facts_changed}
use Rattle.block_states.proofs.states.BlockStates.set_facts.Goals as goal

pub returns : goal.returns
returns c = rw (← c.self.view_is, c.put_at.ensures)
    (facts_changed c.self.inside.started c.self.inside.facts.items c.self.inside.ram c.args.id c.args.facts c.self.invariant)
