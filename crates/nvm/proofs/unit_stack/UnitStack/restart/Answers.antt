use Rattle.std.proofs.Common.{subst}
use Rattle.nvm_flash.specs.fee_laws.Made.{part_at}
use Rattle.nvm_flash.specs.Made.{one_part}
use Rattle.nvm_flash.specs.fee_core.Tells.{told_clock}
use Rattle.nvm_flash.specs.fee_told.Device.{Device, told_of}
use Rattle.nvm_flash.specs.memif.Calls.{InOrder}
use Rattle.nvm_flash.specs.memif.Trials.{Lasts}
use Rattle.nvm_flash.specs.nvm_laws.StartUps.{StacksComeDown}
use Rattle.nvm_flash.specs.nvm_core.StartUps.{StartsKeep}
use Rattle.nvm.specs.Closing.{UnitState}
use Rattle.nvm.specs.Unit.{Stays}
use Rattle.nvm.proofs.UnitLaws.{restarted_unit, restarts_stay}
use Rattle.nvm.proofs.UnitTurns.{restarted_turned}
use Rattle.nvm.proofs.unit_stack.UnitStack.restart.Goals as goal

pub invariant_of-self : goal.invariant_of-self
invariant_of-self g c =
    let s = c.self.inside.stack in let t = c.restart-answer.new.self in
    let is = c.restart-answer.ensures in
    restarted_unit g.O.Origin.making g.O.Origin.entry c.self.inside.plans s t c.restart-answer.result c.self.invariant (is.down (one_part (part_at g.O.Origin.entry)))
    (restarted_turned s t c.self.invariant.turned is.down (subst (λ (d : Device). InOrder (told_of d) (told_clock d)) c.device-behind.ensures.device c.status-status.ensures.order) is.lasts c.device-behind.ensures.power c.restart-answer.result is.restarts is.keeps)
    is.restarts is.keeps

pub returns-clause-stays : goal.returns-clause-stays
returns-clause-stays g c =
    subst (λ (x : UnitState). Stays x c.restart-answer.new.self) c.self.view_is (restarts_stay c.self.inside.stack c.restart-answer.new.self c.restart-answer.result c.restart-answer.ensures.restarts)

pub returns-clause-keeps : goal.returns-clause-keeps
returns-clause-keeps g c = let t = c.restart-answer.new.self in subst (λ (x : UnitState). StartsKeep c.restart-answer.result x.desk (told_of x.device) (told_clock x.device) t.desk (told_of t.device) (told_clock t.device)) c.self.view_is c.restart-answer.ensures.keeps

pub returns-clause-lasts : goal.returns-clause-lasts
returns-clause-lasts g c = let t = c.restart-answer.new.self in subst (λ (x : UnitState). Lasts (told_of x.device) (told_clock x.device) (told_of t.device) (told_clock t.device)) c.self.view_is c.restart-answer.ensures.lasts

pub returns-clause-down : goal.returns-clause-down
returns-clause-down g c = let t = c.restart-answer.new.self in subst (λ (x : UnitState). StacksComeDown (told_of x.device) (told_clock x.device)) c.self.view_is c.restart-answer.ensures.down
