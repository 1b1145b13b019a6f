use Rattle.std.proofs.Common.{◌∙◌, sym, ap, get_or}
use Rattle.block_states.proofs.Shown.{at_shown}
use Rattle.block_states.specs.States.{facts_of, no_facts}
use Rattle.block_states.proofs.states.BlockStates.facts.Goals as goal

pub returns-then-self : goal.returns-then-self
returns-then-self c = rw (← c.self.view_is) (c.facts_at.ensures ∙ ap (λ fs. get_or fs c.args.id no_facts) c.deref.ensures.value
    ∙ sym (ap facts_of (at_shown c.self.inside.started c.self.inside.facts.items c.self.inside.ram c.args.id c.self.invariant c.if-self.true)))
