use Rattle.std.proofs.Common.{[], ◌∙◌, arith}
use Rattle.block_states.proofs.Started.{start_shown, rooms_count}
use Rattle.block_states.proofs.states.BlockStates.start_up.Goals as goal

pub start_all-requires : goal.start_all-requires
start_all-requires c = c.self.invariant ∙ rooms_count c.args.config.now c.self.inside.ram (rw (← c.self.view_is) at c.requires)

pub returns : goal.returns
returns c = rw (← c.self.view_is)
    (start_shown c.args.config.now [] c.start_all.new.facts.items c.self.inside.ram c.clear.new.self
    (rw (← c.self.view_is) at c.requires) c.clear.ensures (c.start_all.ensures.length ∙ c.self.invariant)
    (λ i below. c.start_all.ensures.each i (omega (arith, below, c.start_all.ensures.length))))
