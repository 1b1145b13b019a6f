use Rattle.std.proofs.Common.{get_or, ap}
use Rattle.std.proofs.lemmas.List.Edits.{map_over_more}
use Rattle.memif.specs.Kept.{undoubted}
use Rattle.memif.proofs.kept.leave_no_doubt.Goals as goal

pub loop-one-preserved : goal.loop-one-preserved
loop-one-preserved c =
    let there = ap (get_or c.loop-one.one-items c.loop-one.one-index) c.one-item.is in
    map_over_more undoubted _ _ _ (get_or c.loop-one.one-items c.loop-one.one-index c.one-item.result) c.loop-one-test.true c.loop-one.invariant there
