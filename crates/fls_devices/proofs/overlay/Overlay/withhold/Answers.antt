use Rattle.std.proofs.Common.{◌≡◌, false, refl, ap, ◌∙◌, arith}
use Rattle.fls_devices.specs.Overlay.{Overlaid}
use Rattle.fls_devices.proofs.Steps.{asked_withheld, kept_withheld}
use Rattle.fls_devices.proofs.overlay.Overlay.withhold.Goals as goal

pub invariant_of-self : goal.invariant_of-self
invariant_of-self g c =
    let on : c.self.inside.off ≡ false = ap (λ (v : Overlaid). v.off) c.self.view_is ∙ c.requires.on in
    rw (c.is_off-self-inside.ensures, c.count_cut-self-inside.ensures, c.count_fault-self-inside.ensures, c.saturating_add-self-inside.ensures, c.harmed_answer-answer.ensures)
    (kept_withheld _ _ _ _ c.self.invariant on refl refl c.add.ensures)

pub returns-clause-step : goal.returns-clause-step
returns-clause-step g c =
    let on : c.self.inside.off ≡ false = ap (λ (v : Overlaid). v.off) c.self.view_is ∙ c.requires.on in
    rw (← c.self.view_is, c.is_off-self-inside.ensures, c.count_cut-self-inside.ensures, c.count_fault-self-inside.ensures, c.saturating_add-self-inside.ensures, c.harmed_answer-answer.ensures)
    (asked_withheld _ _ _ _ _ c.self.invariant (record { cuts = omega arith; faults = omega arith }) on refl c.harmed_answer-answer.ensures refl refl c.add.ensures)
