use Rattle.nv_desk_state.proofs.Members.{canceled_noted}
use Rattle.nv_desk_state.proofs.sweep.PendingSweep.cancel.Goals as goal

pub returns-clause-noted : goal.returns-clause-noted
returns-clause-noted c c' sw id h = rw c.cancel.ensures (canceled_noted c' c.args.self.now sw id h)
