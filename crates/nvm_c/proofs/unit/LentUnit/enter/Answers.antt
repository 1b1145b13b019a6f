use Rattle.std.proofs.Common.{Ok, Result, ap, ◌∙◌, subst}
use Rattle.nvm.specs.block_machine.Words.{Reply}
use Rattle.nvm.specs.nv_desk.Request.{whole_request}
use Rattle.nvm.specs.nv_desk.declared.ask.AskFault.{AskFault}
use Rattle.nvm.specs.Turned.{AsksMove}
use Rattle.nvm_c.specs.Unit.{UnitState, IsAskCall}
use Rattle.nvm_c.proofs.UnitLaws.{Tells, asks_told}
use Rattle.nvm_c.proofs.unit.LentUnit.enter.Goals as goal

pub returns-clause-asks : goal.returns-clause-asks
returns-clause-asks g c =
    let s = c.self.inside.unit in let t = c.enter.new.self in let reply = c.in_ok-reply.reply in
    let ready = ap (λ (x : UnitState). x.ready) c.self.view_is ∙ c.requires.ready in
    let old : Tells s = subst Tells c.stack-before.ensures.stack (record { tied = c.device-device.ensures.tied; power = c.device-device.ensures.power }) in
    let new : Tells t = subst Tells c.stack-after.ensures.stack (record { tied = c.device-behind.ensures.tied; power = c.device-behind.ensures.power }) in
    subst (λ (x : UnitState). IsAskCall (whole_request c.args.kind c.args.content.now) (Ok reply) x t) c.self.view_is (record {
      told = asks_told s t (whole_request c.args.kind c.args.content.now) c.enter.result reply c.in_ok-reply.was c.enter.ensures.no_room c.enter.ensures.ok ready old new;
      none = tt;
      moved = subst (λ (r : Result Reply AskFault). AsksMove 0 (whole_request c.args.kind c.args.content.now) r s t) c.in_ok-reply.was c.enter.ensures.moved;
    })
