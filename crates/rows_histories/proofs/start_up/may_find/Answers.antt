use Rattle.std.proofs.Common.{take}
use Rattle.rows_histories.proofs.Finds.{may_find}
use Rattle.rows_histories.proofs.start_up.may_find.Goals as goal

pub returns : goal.returns
returns c = λ cap legal on.
    let each = c.each_may_stand.ensures cap legal in
    let found = may_find c.args.config.now cap
    (take c.args.count c.args.history.now.entries) c.args.marks.now c.blocks-blocks.ensures.legal legal on in
    (λ yes. found.0 (each.0 yes), λ may. each.1 (found.1 may))
