use Rattle.std.proofs.Common.{subst}
use Rattle.nvm.specs.Unit.{Stands}
use Rattle.nvm_c.specs.Unit.{UnitState}
use Rattle.nvm_c.proofs.unit.LentUnit.stands.Goals as goal

pub returns : goal.returns
returns g c = subst (λ (s : UnitState). Stands g.O.Origin.entry s) c.self.view_is c.stands.ensures
