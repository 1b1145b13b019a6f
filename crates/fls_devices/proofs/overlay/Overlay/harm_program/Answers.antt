use Rattle.std.proofs.Common.{◌≡◌, false, refl, ap, ◌∙◌, arith}
use Rattle.fls_model.specs.Step.{programs}
use Rattle.fls_devices.specs.Overlay.{Overlaid}
use Rattle.fls_devices.proofs.Steps.{on_step, asked_reached, kept_reached, some_reached}
use Rattle.fls_devices.proofs.overlay.Overlay.harm_program.Goals as goal

pub invariant_of-self : goal.invariant_of-self
invariant_of-self g c =
    let on : c.self.inside.off ≡ false = ap (λ (v : Overlaid). v.off) c.self.view_is ∙ c.requires.on in
    let some = some_reached c.args.keep c.if-keep-eq0.false in
    let asked = rw c.kept_part-part.ensures at (on_step _ _ _ _ (c.self.invariant.power on) c.program-inner.ensures) in
    rw (c.is_off-self-inside.ensures, c.count_cut-self-inside.ensures, c.count_fault-self-inside.ensures, c.harmed_answer-answer.ensures)
    (kept_reached _ c.args.keep (programs c.args.address c.args.page.now) _ _ _ _ _ c.self.invariant asked (c.program_call-2.ensures.op (g.F.Flash.told c.self.inside.inner).geometry) refl refl some c.add.ensures)

pub returns-clause-step : goal.returns-clause-step
returns-clause-step g c =
    let on : c.self.inside.off ≡ false = ap (λ (v : Overlaid). v.off) c.self.view_is ∙ c.requires.on in
    let some = some_reached c.args.keep c.if-keep-eq0.false in
    let asked = rw c.kept_part-part.ensures at (on_step _ _ _ _ (c.self.invariant.power on) c.program-inner.ensures) in
    rw (← c.self.view_is, c.is_off-self-inside.ensures, c.count_cut-self-inside.ensures, c.count_fault-self-inside.ensures, c.harmed_answer-answer.ensures)
    (asked_reached _ c.args.keep (programs c.args.address c.args.page.now) _ _ _ _ _ c.self.invariant (record { cuts = omega arith; faults = omega arith }) asked (c.program_call-2.ensures.op (g.F.Flash.told c.self.inside.inner).geometry) c.harmed_answer-answer.ensures refl some c.add.ensures)
