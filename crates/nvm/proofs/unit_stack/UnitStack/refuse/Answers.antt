use Rattle.std.proofs.Common.{subst}
use Rattle.nvm.specs.Closing.{UnitState}
use Rattle.nvm.specs.Unit.{Stays}
use Rattle.nvm.proofs.UnitLaws.{copied_stay, copied_unit}
use Rattle.nvm.proofs.unit_stack.UnitStack.refuse.Goals as goal

pub invariant_of-self : goal.invariant_of-self
invariant_of-self g c = copied_unit g.O.Origin.making g.O.Origin.entry c.self.inside.plans c.self.inside.stack c.refuse.new.self _ c.self.invariant c.refuse.ensures

pub returns-clause-stays : goal.returns-clause-stays
returns-clause-stays g c = subst (λ (x : UnitState). Stays x c.refuse.new.self) c.self.view_is (copied_stay c.self.inside.stack c.refuse.new.self _ c.refuse.ensures)
