use Rattle.std.proofs.Common.{sym, ap, ◌∙◌}
use Rattle.fee_core.specs.Whole.{Whole}
use Rattle.fee_core.proofs.Standing.{off_turned}
use Rattle.fee_core.proofs.parts.FeeParts.turn.Goals as goal

pub returns-then-self : goal.returns-then-self
returns-then-self g c =
    let off = sym (ap (λ (x : Whole). x.off) c.self.view_is) ∙ c.if-self.true in
    off_turned c.requires off c.in-Some.job (sym (ap (λ (x : Whole). x.parts.job) c.self.view_is) ∙ c.in-Some.is)
