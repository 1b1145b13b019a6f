use Rattle.std.proofs.Common.{ap, subst, sym, ◌∙◌}
use Rattle.nvm_flash.specs.memif.Calls.{InOrder}
use Rattle.nvm_flash.specs.fee_core.Tells.{told_clock}
use Rattle.nvm_flash.specs.fee_told.Device.{Device, told_of}
use Rattle.nvm_flash.proofs.Called.{begins_kept}
use Rattle.nvm.specs.Closing.{UnitState}
use Rattle.nvm.specs.Unit.{Stays, takes_of}
use Rattle.nvm.proofs.UnitLaws.{begun_takes, begun_unit, starts_stay}
use Rattle.nvm.proofs.unit.switch_on.Goals as goal

pub over-requires : goal.over-requires
over-requires g c =
    let m = c.args.stack in let origin = c.requires.origin in
    begun_unit g.O.Origin.making g.O.Origin.entry m c.in-Ok.stack c.requires.made (begins_kept (told_of m.device) (told_clock m.device))
    (subst (λ (d : Device). InOrder (told_of d) (told_clock d)) c.device.ensures.device c.status.ensures.order)
    (subst (λ (d : Device). InOrder (told_of d) (told_clock d)) c.device-behind.ensures.device c.status-status.ensures.order)
    c.in-Ok.ensures.started c.in-Ok.ensures.keeps origin.0 c.args.cuts c.requires.legal origin.1

pub returns-in-Ok-clause-stays : goal.returns-in-Ok-clause-stays
returns-in-Ok-clause-stays g c = subst (λ (s : UnitState). Stays c.args.stack s) (sym c.over.ensures) (starts_stay c.args.stack c.in-Ok.stack c.in-Ok.ensures.started)

pub returns-in-Ok-clause-ready : goal.returns-in-Ok-clause-ready
returns-in-Ok-clause-ready g c = ap (λ (s : UnitState). s.ready) c.over.ensures ∙ ap (λ (s : UnitState). s.ready) c.in-Ok.ensures.started.only

pub returns-in-Ok-clause-plans : goal.returns-in-Ok-clause-plans
returns-in-Ok-clause-plans g c =
    ap takes_of c.over.ensures ∙ begun_takes g.O.Origin.making g.O.Origin.entry c.args.stack c.in-Ok.stack c.requires.made c.in-Ok.ensures.started c.requires.origin.0 c.args.cuts c.requires.origin.1
