use Rattle.std.proofs.Common.{◌∙◌, ap, arith, sym}
use Rattle.block_machine.specs.Words.{Ask, Accepted}
use Rattle.block_machine.specs.Reply.{needed}
use Rattle.block_machine.specs.Steps.{after}
use Rattle.nv_desk.specs.Desk.{sweep_request}
use Rattle.nv_desk.proofs.Asks.{sweep_accepted}
use Rattle.nv_desk.proofs.Coming.{ask_below, few_sweep, recordable, recordable_still}
use Rattle.nv_desk.proofs.Requests.{needed_sweep, sweep_agrees, sweep_jobs, sweep_reserves, sweep_sound}
use Rattle.nv_desk.proofs.Entries.{ask_kept, counted_still, stay_ready}
use Rattle.nv_desk.proofs.desk.Desk.accept_sweep.Goals as goal

pub overflow_add-reserved : goal.overflow_add-reserved
overflow_add-reserved c =
    let d = c.self.inside in
    let allowed = rw (← c.self.view_is, c.requires.kind) at c.requires.allowed in
    let need = (rw (← c.self.view_is) at c.needed-needed.ensures) ∙ ap (needed d.config) (c.lent.ensures ∙ c.requires.kind) in
    let few = few_sweep d c.args.writes _ _ c.self.invariant allowed.replies need (c.reserved.ensures.value d.config _ c.self.invariant.agrees) in
    omega (arith, few)

pub take_memory-requires-clause-few : goal.take_memory-requires-clause-few
take_memory-requires-clause-few c =
    let d = c.self.inside in
    let allowed = rw (← c.self.view_is, c.requires.kind) at c.requires.allowed in
    let need = (rw (← c.self.view_is) at c.needed-needed.ensures) ∙ ap (needed d.config) (c.lent.ensures ∙ c.requires.kind) in
    few_sweep d c.args.writes _ _ c.self.invariant allowed.replies need (c.reserved.ensures.value d.config _ c.self.invariant.agrees)

pub take_memory-requires-clause-comes : goal.take_memory-requires-clause-comes
take_memory-requires-clause-comes c = recordable c.self.inside c.args.incoming c.self.invariant (rw (← c.self.view_is) at c.requires.comes)

pub add_ask-requires-clause-below : goal.add_ask-requires-clause-below
add_ask-requires-clause-below c =
    let allowed = rw (← c.self.view_is) at c.requires.allowed in
    ask_below c.self.inside c.take_memory.new.history c.take_memory.ensures.same allowed.room

pub add_ask-requires-clause-comes : goal.add_ask-requires-clause-comes
add_ask-requires-clause-comes c = recordable_still c.self.inside.history c.take_memory.new.history c.args.incoming c.take_memory.ensures.same
    (recordable c.self.inside c.args.incoming c.self.invariant (rw (← c.self.view_is) at c.requires.comes))

pub invariant_of-self-2 : goal.invariant_of-self-2
invariant_of-self-2 c =
    let d = c.self.inside in
    let s = after d.config d.history.entries in
    let allowed = rw (← c.self.view_is, c.requires.kind) at c.requires.allowed in
    let need = (rw (← c.self.view_is) at c.needed-needed.ensures) ∙ ap (needed d.config) (c.lent.ensures ∙ c.requires.kind) in
    let passed = sweep_accepted d.config d.history.cap s c.args.writes allowed.replies in
    let count = c.len.ensures.count ∙ counted_still d c.take_memory.new.history c.take_memory.ensures.same in
    ask_kept d _ _ _ d.places (Ask c.args.caller (sweep_request c.args.writes) Accepted) _ (needed d.config (sweep_request c.args.writes)) c.self.invariant
    c.take_memory.ensures.same c.in_ok-take_memory.ensures.entries (rw c.requires.kind at c.add_ask.ensures) allowed
    (sweep_agrees d.config c.begin_sweep.new.self s c.args.writes
    (c.begin_sweep.ensures d.config s c.self.invariant.agrees (sym count) (need ∙ needed_sweep d.config c.args.writes)))
    (sweep_sound d.config s c.args.caller c.args.writes c.self.invariant.sound)
    (omega (arith, need, c.reserved.ensures.value d.config s c.self.invariant.agrees))
    (sweep_reserves d.config d.history.cap s c.args.writes c.self.invariant.sound passed) passed.room
    (stay_ready d _ c.self.invariant (sweep_jobs d.config s c.args.writes))
