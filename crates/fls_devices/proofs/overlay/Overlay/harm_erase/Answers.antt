use Rattle.std.proofs.Common.{◌≡◌, false, refl, ap, ◌∙◌, arith}
use Rattle.fls_devices.specs.Overlay.{Overlaid}
use Rattle.fls_devices.proofs.Steps.{on_step, asked_reached, kept_reached, some_reached}
use Rattle.fls_devices.proofs.overlay.Overlay.harm_erase.Goals as goal

pub invariant_of-self : goal.invariant_of-self
invariant_of-self g c =
    let on : c.self.inside.off ≡ false = ap (λ (v : Overlaid). v.off) c.self.view_is ∙ c.requires.on in
    let some = some_reached c.args.keep c.if-keep-eq0.false in
    let asked = on_step _ _ _ _ (c.self.invariant.power on) c.erase-inner.ensures in
    rw (c.is_off-self-inside.ensures, c.count_cut-self-inside.ensures, c.count_fault-self-inside.ensures, c.harmed_answer-answer.ensures)
    (kept_reached _ c.args.keep _ _ _ _ _ _ c.self.invariant asked refl refl refl some c.add.ensures)

pub returns-clause-step : goal.returns-clause-step
returns-clause-step g c =
    let on : c.self.inside.off ≡ false = ap (λ (v : Overlaid). v.off) c.self.view_is ∙ c.requires.on in
    let some = some_reached c.args.keep c.if-keep-eq0.false in
    let asked = on_step _ _ _ _ (c.self.invariant.power on) c.erase-inner.ensures in
    rw (← c.self.view_is, c.is_off-self-inside.ensures, c.count_cut-self-inside.ensures, c.count_fault-self-inside.ensures, c.harmed_answer-answer.ensures)
    (asked_reached _ c.args.keep _ _ _ _ _ _ c.self.invariant (record { cuts = omega arith; faults = omega arith }) asked refl c.harmed_answer-answer.ensures refl some c.add.ensures)
