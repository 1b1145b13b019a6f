use Rattle.std.proofs.Common.{arith}
use Rattle.nv_base.proofs.Lists.{AreLengths-few}
use Rattle.nv_base.proofs.lengths.Lengths.len.Goals as goal

pub overflow_cast-result : goal.overflow_cast-result
overflow_cast-result c = omega (arith, AreLengths-few _ _ c.self.invariant)
