use Rattle.std.proofs.Common.{subst}
use Rattle.nvm.specs.Closing.{UnitState}
use Rattle.nvm.specs.Unit.{ListsStanding}
use Rattle.nvm.proofs.UnitLaws.{lists_standing}
use Rattle.nvm.proofs.unit_stack.UnitStack.stack.Goals as goal

pub returns-clause-standing : goal.returns-clause-standing
returns-clause-standing g c =
    subst (λ (s : UnitState). ListsStanding s) c.self.view_is
    (lists_standing g.O.Origin.making g.O.Origin.entry c.self.inside.plans c.self.inside.stack c.self.invariant (λ ready. (c.device-device.ensures.tied ready).up))
