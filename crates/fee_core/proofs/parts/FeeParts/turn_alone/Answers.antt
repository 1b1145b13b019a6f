use Rattle.std.specs.Prelude.{is_some}
use Rattle.std.proofs.Common.{◌≡◌, true, false, sym, ap, ◌∙◌}
use Rattle.fee_core.specs.Whole.{Whole}
use Rattle.fee_core.proofs.Standing.{off_beside, phase_open}
use Rattle.fee_core.proofs.parts.FeeParts.turn_alone.Goals as goal

pub returns-then-self : goal.returns-then-self
returns-then-self g c =
    let off = sym (ap (λ (x : Whole). x.off) c.self.view_is) ∙ c.if-self.true in
    let open' = phase_open c.self.inside.banks.course (λ none. let is = c.phase.ensures ∙ none in let same = rw is at c.eq.ensures in let wrong : false ≡ true = sym c.if-eq.false ∙ same in cc wrong) in
    off_beside c.requires.sound off (sym (ap (λ (x : Whole). is_some x.parts.banks.course) c.self.view_is) ∙ open')
