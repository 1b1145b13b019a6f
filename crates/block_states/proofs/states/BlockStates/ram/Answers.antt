use Rattle.std.proofs.Common.{◌∙◌, sym, ap, arith, length}
use Rattle.block_states.proofs.Shown.{at_shown, room_at}
use Rattle.block_machine.specs.State.{BlockState}
use Rattle.block_states.proofs.states.BlockStates.ram.Goals as goal

pub returns-then-self-clause-value : goal.returns-then-self-clause-value
returns-then-self-clause-value c = rw (← c.self.view_is) (c.get.ensures
    ∙ sym (ap (λ (b : BlockState). b.ram)
    (at_shown c.self.inside.started c.self.inside.facts.items c.self.inside.ram c.args.id c.self.invariant c.if-self.true)))

pub returns-then-self-clause-room : goal.returns-then-self-clause-room
returns-then-self-clause-room c = rw (← c.self.view_is) (let e = ap length c.get.ensures in omega (arith, e, room_at c.self.inside.ram c.args.id))
