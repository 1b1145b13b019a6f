use Rattle.std.proofs.Common.{◌≡◌, Some, sym, ◌∙◌}
use Rattle.fls_model.specs.Step.{erases}
use Rattle.fls_devices.specs.Cutter.{due}
use Rattle.fls_devices.proofs.Cuts.{cut_stands}
use Rattle.fls_devices.proofs.cutter.CutterFlash.erase.Goals as goal

pub returns-in-Some-clause-step : goal.returns-in-Some-clause-step
returns-in-Some-clause-step g c =
    let o = c.self.inside.flash in
    let is : due o.off c.self.inside.plan ≡ Some c.in-Some.keep = rw (← c.is_off-off.ensures.off) (sym c.due-keep.ensures ∙ c.in-Some.is) in
    rw (← c.self.view_is, c.plan_after-self-inside.ensures, c.is_off-off.ensures.off)
    (cut_stands (erases o.inner.geometry c.args.sector) o _ _ c.self.inside.plan c.self.inside.arms c.in-Some.keep is c.harm_erase.ensures.step c.harm_erase.ensures.harmed)
