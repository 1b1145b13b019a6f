use Rattle.std.proofs.Common.{arith}
use Rattle.fls_model.proofs.Growth.{grown_more, grown_at}
use Rattle.fls_model.proofs.image.has_grown.Goals as goal

pub returns-then-old-i : goal.returns-then-old-i
returns-then-old-i c = (λ e. absurd (cc), λ grown. absurd (c.if-old-i.true (grown_at _ _ c.loop-i.i (omega arith) grown)))

pub loop-i-preserved : goal.loop-i-preserved
loop-i-preserved c = grown_more _ _ _ (omega arith) (omega arith) c.loop-i.invariant c.if-old-i.false (omega (arith, c.type_inv.new c.loop-i.i))
