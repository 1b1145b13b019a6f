use Rattle.std.proofs.Common.{◌≡◌, ◌≤◌, true, sym, subst, ap, ◌∙◌, arith}
use Rattle.nvm.specs.memif.Told.{armed, ops_of}
use Rattle.nvm.specs.nv_desk.Desk.{state_of}
use Rattle.nvm.specs.nvm_core.Stack.{PowersOff}
use Rattle.nvm.specs.nvm_flash.fee_told.Device.{told_of}
use Rattle.script_player.specs.Calls.{Arms}
use Rattle.script_player.specs.PlainTold.{shown}
use Rattle.script_player.specs.Told.{StackTold}
use Rattle.script_player.proofs.PlainSteps.{arms}
use Rattle.nvm_c.specs.Unit.{UnitState, unit_told}
use Rattle.nvm_c.specs.Work.{PlansCut}
use Rattle.nvm_c.proofs.UnitLaws.{planned_cut}
use Rattle.nvm_c.proofs.unit.LentUnit.arm.Goals as goal

pub returns-clause-planned : goal.returns-clause-planned
returns-clause-planned g c done =
    let s = c.self.inside.unit in
    let t = c.arm.new.self in
    let d = told_of s.device in
    let ready = ap (λ (x : UnitState). x.ready) c.self.view_is ∙ c.requires in
    let later : (state_of s.desk).ops ≤ ops_of d = subst (λ (x : UnitState). x.ready ≡ true → (state_of x.desk).ops ≤ ops_of (told_of x.device)) c.stack-before.ensures.stack (λ up. (c.device-device.ensures.tied up).later) ready in
    let power : PowersOff s.desk d = subst (λ (x : UnitState). x.ready ≡ true → PowersOff x.desk (told_of x.device)) c.stack-before.ensures.stack c.device-device.ensures.power ready in
    let is : unit_told t ≡ shown s.desk s.hand s.copies s.ready (armed 0 c.args.nth c.args.keep d) = ap unit_told c.arm.ensures.only ∙ ap (shown s.desk s.hand s.copies s.ready) c.arm.ensures.arms.0 in
    subst (λ (x : UnitState). PlansCut c.args.nth c.args.keep x t) c.self.view_is
    (planned_cut s t c.args.nth c.args.keep c.self.inside.plans c.self.invariant.0.takes (let some = c.if-nth-eq0 in grind (arith, some)) (let left = c.if-self-eq0 in grind (arith, left))
    (record { told = subst (λ (x : StackTold). Arms c.args.nth c.args.keep (unit_told s) x) (sym is) (arms c.args.nth c.args.keep s.desk s.hand s.copies s.ready d later power); moved = c.arm.ensures.moved }))
