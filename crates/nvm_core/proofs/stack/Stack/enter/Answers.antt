use Rattle.std.proofs.Common.{◌≡◌, Bool, true, ap, sym, subst, ◌∙◌}
use Rattle.nvm_laws.specs.block_config.Rules.{IsLegalConfig}
use Rattle.nvm_laws.specs.block_machine.Legal.{HasStore}
use Rattle.nvm_laws.specs.Keeps.{StaysKept}
use Rattle.nvm_laws.specs.DueCalls.{KeepsDue}
use Rattle.nvm_laws.specs.nv_desk.Request.{request_lent}
use Rattle.nvm_core.specs.Stack.{IsStack, StackState, stack_seen, is_unused}
use Rattle.nvm_core.specs.Due.{AcceptsDue, now_of}
use Rattle.nvm_core.proofs.Asked.{accepted_due, asked_due, asked_keeps, asked_stack}
use Rattle.nvm_core.proofs.stack.Stack.enter.Goals as goal

pub invariant_of-self : goal.invariant_of-self
invariant_of-self g c =
    let inside = c.self.inside in
    let told = g.D.MemDevice.told inside.driver.device in
    let copies = g.C.SyncCalls.told inside.driver.copies in
    let ready : inside.ready ≡ true = ap (λ s. s.ready) c.self.view_is ∙ c.requires.ready in
    subst (λ (b : Bool). IsStack c.enter.new.self inside.front.staging inside.driver.hand told copies inside.room b) (sym ready)
    (asked_stack inside.front.desk c.enter.new.self inside.front.staging inside.driver.hand told copies inside.room
    c.args.caller (request_lent c.args.request) c.enter.result c.enter.ensures.reply c.enter.ensures.ok (λ fault is. rw is at c.enter.ensures.err) c.desc_in_hand-desc.ensures.pending
    (subst (λ (b : Bool). IsStack inside.front.desk inside.front.staging inside.driver.hand told copies inside.room b) ready c.self.invariant))

pub returns-clause-keeps : goal.returns-clause-keeps
returns-clause-keeps g c =
    let inside = c.self.inside in
    let told = g.D.MemDevice.told inside.driver.device in
    let clock = (g.D.MemDevice.clock inside.driver.device) in
    let ready : inside.ready ≡ true = ap (λ s. s.ready) c.self.view_is ∙ c.requires.ready in
    subst (λ s. StaysKept s.desk s.hand (g.D.MemDevice.told s.device) (g.D.MemDevice.clock s.device) c.enter.new.self inside.driver.hand told clock) c.self.view_is
    (asked_keeps inside.front.desk c.enter.new.self inside.driver.hand told clock c.args.caller (request_lent c.args.request) c.enter.result
    (c.self.invariant.tied ready).started c.requires.caller (subst (λ s. HasStore s.desk.config (request_lent c.args.request)) (sym c.self.view_is) c.requires.store)
    c.enter.ensures.reply c.enter.ensures.ok (λ fault is. rw is at c.enter.ensures.err) c.enter.ensures.no_room)

pub returns-clause-accepted : goal.returns-clause-accepted
returns-clause-accepted g c =
    let inside = c.self.inside in
    let told = g.D.MemDevice.told in
    let old = stack_seen inside.front.desk inside.driver.hand inside.driver.device inside.driver.copies inside.ready (is_unused inside.ready inside.room) in
    subst (λ (s : StackState g.row.D.Denot g.row.C.Denot). AcceptsDue told (request_lent c.args.request) c.enter.result s (record old { desk = c.enter.new.self })) c.self.view_is
    (accepted_due told old c.enter.new.self c.args.caller (request_lent c.args.request) (subst IsLegalConfig c.config.ensures c.blocks-blocks.ensures.legal) c.enter.result c.enter.ensures.ok)

pub returns-clause-due : goal.returns-clause-due
returns-clause-due g c =
    let inside = c.self.inside in
    let told = g.D.MemDevice.told in
    let old = stack_seen inside.front.desk inside.driver.hand inside.driver.device inside.driver.copies inside.ready (is_unused inside.ready inside.room) in
    subst (λ (s : StackState g.row.D.Denot g.row.C.Denot). KeepsDue (now_of told s) (now_of told (record old { desk = c.enter.new.self }))) c.self.view_is
    (asked_due told old c.enter.new.self c.args.caller (request_lent c.args.request) c.enter.result c.enter.ensures.reply c.enter.ensures.ok (λ fault is. rw is at c.enter.ensures.err)
    c.desc_in_hand-desc.ensures.next)
