use Rattle.std.proofs.Common.{take}
use Rattle.fls_model.specs.Bytes.{Grown}
use Rattle.fls_model.proofs.image.has_grown.Given as goal

abbrev pub invariant-loop-i : goal.invariant-loop-i
invariant-loop-i l = Grown (take l.i l.old) (take l.i l.new)
