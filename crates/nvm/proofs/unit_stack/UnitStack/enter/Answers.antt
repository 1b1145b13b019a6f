use Rattle.std.proofs.Common.{ap, ◌∙◌, subst}
use Rattle.nvm_flash.specs.fee_core.Tells.{told_clock}
use Rattle.nvm_flash.specs.fee_told.Device.{Device, told_of}
use Rattle.nvm_flash.specs.memif.Calls.{FreesReady, InOrder}
use Rattle.nvm_flash.specs.nv_desk.Request.{request_lent}
use Rattle.nvm_flash.specs.nvm_laws.DueCalls.{KeepsDue}
use Rattle.nvm_flash.specs.nvm_laws.Keeps.{StaysKept}
use Rattle.nvm_flash.specs.nvm_core.Due.{AcceptsDue, now_of}
use Rattle.nvm.specs.Closing.{UnitState}
use Rattle.nvm.specs.Unit.{Stays}
use Rattle.nvm.proofs.UnitLaws.{asked_stay, asked_takes, asked_up, kept_unit}
use Rattle.nvm.specs.Turned.{AsksMove}
use Rattle.nvm.proofs.UnitTurns.{asked_moves, asked_turned}
use Rattle.nvm.proofs.unit_stack.UnitStack.enter.Goals as goal

pub invariant_of-self : goal.invariant_of-self
invariant_of-self g c =
    let s = c.self.inside.stack in let t = c.enter.new.self in
    let is = c.enter.ensures in
    let ready = ap (λ (x : UnitState). x.ready) c.self.view_is ∙ c.requires.ready in
    kept_unit g.O.Origin.making g.O.Origin.entry c.self.inside.plans c.self.inside.plans s t c.self.invariant ready
    (asked_up s t c.args.caller (request_lent c.args.request) c.enter.result is.ok is.err) (asked_stay s t c.args.caller (request_lent c.args.request) c.enter.result is.ok is.err).config
    (asked_takes s t c.args.caller (request_lent c.args.request) c.enter.result is.ok is.err ∙ c.self.invariant.takes) is.keeps
    (asked_turned s t c.args.caller (request_lent c.args.request) c.self.invariant.turned ready (c.device-device.ensures.tied ready)
    (subst (λ (d : Device). InOrder (told_of d) (told_clock d)) c.device-device.ensures.device c.status-status.ensures.order) (subst (λ (d : Device). FreesReady (told_of d) (told_clock d)) c.device-device.ensures.device c.status-status.ensures.ready)
    is.keeps is.due c.enter.result is.ok is.err)

pub returns-clause-moved : goal.returns-clause-moved
returns-clause-moved g c =
    let s = c.self.inside.stack in let t = c.enter.new.self in
    let is = c.enter.ensures in
    let ready = ap (λ (x : UnitState). x.ready) c.self.view_is ∙ c.requires.ready in
    subst (λ (x : UnitState). AsksMove c.args.caller (request_lent c.args.request) c.enter.result x t) c.self.view_is
    (asked_moves s t c.args.caller (request_lent c.args.request) c.self.invariant.turned ready (c.device-device.ensures.tied ready)
    (subst (λ (d : Device). InOrder (told_of d) (told_clock d)) c.device-device.ensures.device c.status-status.ensures.order) (subst (λ (d : Device). FreesReady (told_of d) (told_clock d)) c.device-device.ensures.device c.status-status.ensures.ready)
    is.keeps is.due c.enter.result is.ok)

pub returns-clause-stays : goal.returns-clause-stays
returns-clause-stays g c =
    let s = c.self.inside.stack in let t = c.enter.new.self in
    subst (λ (x : UnitState). Stays x t) c.self.view_is (asked_stay s t c.args.caller (request_lent c.args.request) c.enter.result c.enter.ensures.ok c.enter.ensures.err)

pub returns-clause-keeps : goal.returns-clause-keeps
returns-clause-keeps g c = let t = c.enter.new.self in subst (λ (x : UnitState). StaysKept x.desk x.hand (told_of x.device) (told_clock x.device) t.desk t.hand (told_of t.device) (told_clock t.device)) c.self.view_is c.enter.ensures.keeps

pub returns-clause-accepted : goal.returns-clause-accepted
returns-clause-accepted g c = let t = c.enter.new.self in subst (λ (x : UnitState). AcceptsDue told_of (request_lent c.args.request) c.enter.result x t) c.self.view_is c.enter.ensures.accepted

pub returns-clause-due : goal.returns-clause-due
returns-clause-due g c = let t = c.enter.new.self in subst (λ (x : UnitState). KeepsDue (now_of told_of x) (now_of told_of t)) c.self.view_is c.enter.ensures.due
