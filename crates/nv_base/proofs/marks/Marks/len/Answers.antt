use Rattle.std.proofs.Common.{arith}
use Rattle.nv_base.proofs.Lists.{AreMarks-few}
use Rattle.nv_base.proofs.marks.Marks.len.Goals as goal

pub overflow_cast-result : goal.overflow_cast-result
overflow_cast-result c = omega (arith, AreMarks-few _ _ c.self.invariant)
