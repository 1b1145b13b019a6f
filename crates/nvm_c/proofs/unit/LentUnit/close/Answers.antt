use Rattle.std.proofs.Common.{subst}
use Rattle.nvm_c.specs.Unit.{UnitState, CameBack, TakenFrom}
use Rattle.nvm_c.proofs.UnitLaws.{came_back}
use Rattle.nvm_c.proofs.unit.LentUnit.close.Goals as goal

pub returns-clause-taken : goal.returns-clause-taken
returns-clause-taken g c =
    let making = g.O.Origin.making in let entry = g.O.Origin.entry in
    subst (λ (s : UnitState). TakenFrom making entry s c.into_lent.result.bytes) c.self.view_is (λ x inner cuts origin. (
      c.into_flash.result,
      c.into_lent.ensures.bytes,
      c.into_flash.ensures.back x inner cuts origin,
    ))

pub returns-clause-came : goal.returns-clause-came
returns-clause-came g c =
    let entry = g.O.Origin.entry in
    subst (λ (s : UnitState). CameBack entry s c.into_lent.result.bytes) c.self.view_is
    (came_back entry c.into_flash.result c.self.inside.unit c.into_lent.result.bytes c.into_lent.ensures.bytes c.into_lent.ensures.some c.into_flash.ensures.closes)
