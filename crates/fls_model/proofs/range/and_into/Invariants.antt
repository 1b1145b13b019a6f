use Rattle.std.proofs.Common.{◌≡◌, ◌++◌, take, drop}
use Rattle.fls_model.specs.Bytes.{and_bytes}
use Rattle.fls_model.proofs.range.and_into.Given as goal

abbrev pub invariant-loop-i : goal.invariant-loop-i
invariant-loop-i l = l.target ≡ and_bytes (take l.i l.initial.target) (take l.i l.page) ++ drop l.i l.initial.target
