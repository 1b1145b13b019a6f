use Rattle.std.proofs.Common.{ap, sym, ◌∙◌, subst}
use Rattle.nvm_flash.specs.fee_core.Tells.{told_clock}
use Rattle.nvm_flash.specs.fee_told.Device.{told_of}
use Rattle.nvm_flash.specs.memif.Calls.{Arms}
use Rattle.nvm_flash.specs.nvm_laws.DueCalls.{KeepsDue}
use Rattle.nvm_flash.specs.nvm_laws.Keeps.{StaysKept}
use Rattle.nvm_flash.specs.nvm_core.Due.{now_of}
use Rattle.nvm.specs.Closing.{UnitState}
use Rattle.nvm.specs.Turned.{PlansMove}
use Rattle.nvm.specs.Unit.{Stays}
use Rattle.nvm.proofs.UnitLaws.{armed_stay, arms_take, kept_unit}
use Rattle.nvm.proofs.UnitTurns.{armed_moves, armed_turned}
use Rattle.nvm.proofs.unit_stack.UnitStack.arm.Goals as goal

pub invariant_of-self : goal.invariant_of-self
invariant_of-self g c =
    let s = c.self.inside.stack in let t = c.arm.new.self in
    let ready = ap (λ (x : UnitState). x.ready) c.self.view_is ∙ c.requires in
    kept_unit g.O.Origin.making g.O.Origin.entry c.self.inside.plans c.plans_left-left.result s t c.self.invariant ready (ap (λ (x : UnitState). x.ready) c.arm.ensures.only) (armed_stay s t c.arm.ensures.only).config
    (arms_take c.args.which c.args.nth c.args.keep c.self.inside.plans s t c.self.invariant.takes c.arm.ensures.arms ∙ sym c.plans_left-left.ensures) c.arm.ensures.keeps
    (armed_turned s t c.self.invariant.turned ready c.arm.ensures.only (armed_moves c.args.which c.args.nth c.args.keep s t c.arm.ensures.only c.arm.ensures.arms c.arm.ensures.keeps c.arm.ensures.due))

pub returns-clause-moved : goal.returns-clause-moved
returns-clause-moved g c =
    let s = c.self.inside.stack in let t = c.arm.new.self in
    subst (λ (x : UnitState). PlansMove x t) c.self.view_is (armed_moves c.args.which c.args.nth c.args.keep s t c.arm.ensures.only c.arm.ensures.arms c.arm.ensures.keeps c.arm.ensures.due)

pub returns-clause-stays : goal.returns-clause-stays
returns-clause-stays g c = subst (λ (x : UnitState). Stays x c.arm.new.self) c.self.view_is (armed_stay c.self.inside.stack c.arm.new.self c.arm.ensures.only)

pub returns-clause-arms : goal.returns-clause-arms
returns-clause-arms g c = let t = c.arm.new.self in subst (λ (x : UnitState). Arms c.args.which c.args.nth c.args.keep (told_of x.device) (told_clock x.device) (told_of t.device) (told_clock t.device)) c.self.view_is c.arm.ensures.arms

pub returns-clause-keeps : goal.returns-clause-keeps
returns-clause-keeps g c = let t = c.arm.new.self in subst (λ (x : UnitState). StaysKept x.desk x.hand (told_of x.device) (told_clock x.device) t.desk t.hand (told_of t.device) (told_clock t.device)) c.self.view_is c.arm.ensures.keeps

pub returns-clause-due : goal.returns-clause-due
returns-clause-due g c = let t = c.arm.new.self in subst (λ (x : UnitState). KeepsDue (now_of told_of x) (now_of told_of t)) c.self.view_is c.arm.ensures.due
