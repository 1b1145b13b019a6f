use Rattle.std.proofs.Common.{◌∙◌}
use Rattle.nv_desk_state.proofs.Members.{entries_left, taken_left, taken_noted}
use Rattle.nv_desk_state.proofs.sweep.PendingSweep.take.Goals as goal

pub returns-clause-left : goal.returns-clause-left
returns-clause-left c config sw rest h on left entries = record {
  number = h.number;
  under_way = h.under_way;
  entries = c.saturating_sub-self.ensures ∙ entries_left config sw c.args.block rest c.args.self.now.entries c.args.entries left h.entries entries;
  members = rw c.pass.ensures (taken_left config c.args.self.now sw c.args.block rest h on left);
}

pub returns-clause-noted : goal.returns-clause-noted
returns-clause-noted c config sw rest h on left = rw c.pass.ensures
    (taken_noted config c.args.self.now sw c.args.block rest 0 h on left)
