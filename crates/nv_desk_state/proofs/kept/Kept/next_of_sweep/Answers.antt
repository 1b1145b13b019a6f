use Rattle.nv_desk_state.proofs.Members.{sweep_begins}
use Rattle.nv_desk_state.proofs.kept.Kept.next_of_sweep.Goals as goal

pub returns-in-Some-2 : goal.returns-in-Some-2
returns-in-Some-2 c s h free = sweep_begins c.args.config.now s c.args.self.now.sweep s.sweep c.in-Some.sweep c.in-Some.is
    c.if-sweep.false h.sweep
