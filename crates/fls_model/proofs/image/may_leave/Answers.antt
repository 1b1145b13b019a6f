use Rattle.std.proofs.Common.{arith}
use Rattle.fls_model.proofs.image.may_leave.Goals as goal

pub returns-in-Page : goal.returns-in-Page
returns-in-Page c =
    rw c.in-Page.is
    (λ e. (c.is_same_outside.ensures.0 e, λ old k. omega (arith, c.type_inv.image k)), λ leaves. c.is_same_outside.ensures.1 leaves.0)
