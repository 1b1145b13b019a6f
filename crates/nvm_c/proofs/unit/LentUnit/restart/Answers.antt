use Rattle.std.proofs.Common.{inl, inr, subst}
use Rattle.nvm.specs.nvm_flash.nvm_laws.declared.turned.FoundAnswer.{FoundAnswer}
use Rattle.nvm_c.specs.Unit.{UnitState, IsLent, IsStartCall}
use Rattle.nvm_c.proofs.UnitLaws.{restarted_lent, start_call, up_behind}
use Rattle.nvm_c.proofs.unit.LentUnit.restart.Goals as goal

pub invariant_of-self : goal.invariant_of-self
invariant_of-self g c =
    let up = c.self.inside.up in let plans = c.self.inside.plans in let t = c.restart-found.new.self in
    (subst (λ (answer : FoundAnswer). IsLent (up_behind answer up) plans t) c.in-Ready.is (restarted_lent c.self.inside.unit t c.restart-found.result up plans c.self.invariant.0 c.restart-found.ensures.restarts c.restart-found.ensures.stays), c.self.invariant.1)

pub invariant_of-self-in-Failed : goal.invariant_of-self-in-Failed
invariant_of-self-in-Failed g c =
    let up = c.self.inside.up in let plans = c.self.inside.plans in let t = c.restart-found.new.self in
    (subst (λ (answer : FoundAnswer). IsLent (up_behind answer up) plans t) c.in-Failed.is (restarted_lent c.self.inside.unit t c.restart-found.result up plans c.self.invariant.0 c.restart-found.ensures.restarts c.restart-found.ensures.stays), c.self.invariant.1)

pub invariant_of-self-in-NoRoom : goal.invariant_of-self-in-NoRoom
invariant_of-self-in-NoRoom g c =
    let up = c.self.inside.up in let plans = c.self.inside.plans in let t = c.restart-found.new.self in
    let goes = restarted_lent c.self.inside.unit t c.restart-found.result up plans c.self.invariant.0 c.restart-found.ensures.restarts c.restart-found.ensures.stays in
    elim (c.in-NoRoom.is) [
      | inl is ↦ (subst (λ (answer : FoundAnswer). IsLent (up_behind answer up) plans t) is goes, c.self.invariant.1)
      | inr is ↦ (subst (λ (answer : FoundAnswer). IsLent (up_behind answer up) plans t) is goes, c.self.invariant.1)
    ]

pub returns-in-Ready : goal.returns-in-Ready
returns-in-Ready g c =
    subst (λ (x : UnitState). IsStartCall c.restart-found.result x c.restart-found.new.self) c.self.view_is (start_call c.self.inside.unit c.restart-found.new.self c.restart-found.result c.restart-found.ensures.restarts (c.restart-found.ensures.counted c.self.invariant.0.counted))

pub returns-in-Failed : goal.returns-in-Failed
returns-in-Failed g c =
    subst (λ (x : UnitState). IsStartCall c.restart-found.result x c.restart-found.new.self) c.self.view_is (start_call c.self.inside.unit c.restart-found.new.self c.restart-found.result c.restart-found.ensures.restarts (c.restart-found.ensures.counted c.self.invariant.0.counted))

pub returns-in-NoRoom : goal.returns-in-NoRoom
returns-in-NoRoom g c =
    subst (λ (x : UnitState). IsStartCall c.restart-found.result x c.restart-found.new.self) c.self.view_is (start_call c.self.inside.unit c.restart-found.new.self c.restart-found.result c.restart-found.ensures.restarts (c.restart-found.ensures.counted c.self.invariant.0.counted))
