use Rattle.std.proofs.Common.{subst}
use Rattle.nvm.specs.Closing.{UnitState}
use Rattle.nvm.specs.Unit.{Stands}
use Rattle.nvm.proofs.UnitLaws.{unit_closes_by}
use Rattle.nvm.proofs.unit_stack.UnitStack.stands.Goals as goal

pub returns : goal.returns
returns g c =
    let making = g.O.Origin.making in let entry = g.O.Origin.entry in
    subst (λ (s : UnitState). Stands entry s) c.self.view_is (λ inner exit cuts over back. unit_closes_by making entry exit c.self.inside.plans c.self.inside.stack c.self.invariant inner cuts over back)
