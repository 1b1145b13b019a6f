use Rattle.std.proofs.Common.{◌∙◌, sym, ap}
use Rattle.block_states.proofs.Shown.{at_shown}
use Rattle.block_states.specs.States.{flags_of}
use Rattle.block_states.proofs.states.BlockStates.flags.Goals as goal

pub returns-then-self : goal.returns-then-self
returns-then-self c = rw (← c.self.view_is) (c.flags.ensures ∙ sym
    (ap flags_of (at_shown c.self.inside.started c.self.inside.facts.items c.self.inside.ram c.args.id c.self.invariant c.if-self.true)))
