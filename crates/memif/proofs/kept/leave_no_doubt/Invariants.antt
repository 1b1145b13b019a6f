use Rattle.std.proofs.Common.{◌≡◌, ◌++◌, map, take, drop}
use Rattle.memif.specs.Kept.{undoubted}
use Rattle.memif.proofs.kept.leave_no_doubt.Given as goal

abbrev pub invariant-loop-one : goal.invariant-loop-one
invariant-loop-one l = l.one-items ≡ map undoubted (take l.one-index l.initial.one-items) ++ drop l.one-index l.initial.one-items
