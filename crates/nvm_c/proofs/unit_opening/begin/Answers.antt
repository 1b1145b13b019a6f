use Rattle.std.proofs.Common.{ap, ◌∙◌, subst}
use Rattle.nvm.proofs.Called.{begins_kept}
use Rattle.nvm.specs.memif.Calls.{InOrder}
use Rattle.nvm.specs.nvm_flash.fee_core.Tells.{told_clock}
use Rattle.nvm.specs.nvm_flash.fee_told.Device.{Device, told_of}
use Rattle.nvm.specs.nv_desk.Recorder.{keeps}
use Rattle.nvm.proofs.UnitLaws.{begun_unit}
use Rattle.nvm_c.specs.Unit.{UnitState}
use Rattle.nvm_c.proofs.unit_opening.begin.Goals as goal

pub over-unit-requires : goal.over-unit-requires
over-unit-requires g c =
    let m = c.args.stack in let origin = c.requires.origin in
    begun_unit g.O.Origin.making g.O.Origin.entry m c.in-Ok.stack c.requires.made (begins_kept (told_of m.device) (told_clock m.device))
    (subst (λ (d : Device). InOrder (told_of d) (told_clock d)) c.device.ensures.device c.status.ensures.order)
    (subst (λ (d : Device). InOrder (told_of d) (told_clock d)) c.device-behind.ensures.device c.status-status.ensures.order)
    c.in-Ok.ensures.started c.in-Ok.ensures.keeps origin.0 c.args.cuts c.requires.legal origin.1

pub over-requires-clause-counted : goal.over-requires-clause-counted
over-requires-clause-counted g c =
    ap (λ (s : UnitState). keeps s.desk.cap) c.over-unit.ensures ∙ (ap (λ (s : UnitState). keeps s.desk.cap) c.in-Ok.ensures.started.only ∙ ap keeps c.requires.most)
