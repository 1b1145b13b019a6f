use Rattle.std.proofs.Common.{arith}
use Rattle.block_machine.specs.Words.{Ask, Accepted}
use Rattle.block_machine.specs.Steps.{after}
use Rattle.block_states.specs.States.{rooms_of}
use Rattle.nv_desk.specs.Incoming.{request_in}
use Rattle.nv_desk.proofs.Sound.{sound_change}
use Rattle.nv_desk.proofs.Coming.{ask_below, change_fits, recordable, recordable_still}
use Rattle.nv_desk.proofs.Requests.{change_jobs, change_reserves}
use Rattle.nv_desk.proofs.Entries.{ask_kept, stay_ready}
use Rattle.nv_desk.proofs.desk.Desk.accept_change.Goals as goal

pub take_memory-requires-clause-comes : goal.take_memory-requires-clause-comes
take_memory-requires-clause-comes c = recordable c.self.inside c.args.incoming c.self.invariant (rw (← c.self.view_is) at c.requires.comes)

pub add_ask-requires-clause-below : goal.add_ask-requires-clause-below
add_ask-requires-clause-below c =
    let allowed = rw (← c.self.view_is) at c.requires.allowed in
    ask_below c.self.inside c.take_memory.new.history c.take_memory.ensures.same allowed.room

pub add_ask-requires-clause-comes : goal.add_ask-requires-clause-comes
add_ask-requires-clause-comes c = recordable_still c.self.inside.history c.take_memory.new.history c.args.incoming c.take_memory.ensures.same
    (recordable c.self.inside c.args.incoming c.self.invariant (rw (← c.self.view_is) at c.requires.comes))

pub change-requires : goal.change-requires
change-requires c =
    let d = c.self.inside in
    let allowed = rw (← c.self.view_is) at c.requires.allowed in
    rw (c.self.invariant.agrees.rooms, c.lent.ensures)
    (change_fits d.config d.history.cap (after d.config d.history.entries) (request_in c.args.incoming) c.requires.kind allowed.replies)

pub invariant_of-self-2 : goal.invariant_of-self-2
invariant_of-self-2 c =
    let d = c.self.inside in
    let s = after d.config d.history.entries in
    let r = request_in c.args.incoming in
    let allowed = rw (← c.self.view_is) at c.requires.allowed in
    let kind = change_fits d.config d.history.cap s r c.requires.kind allowed.replies in
    ask_kept d _ _ _ d.places (Ask c.args.caller r Accepted) _ 0 c.self.invariant
    c.take_memory.ensures.same c.in_ok-take_memory.ensures.entries c.add_ask.ensures allowed
    (rw c.lent.ensures at (c.change.ensures d.config s c.self.invariant.agrees))
    (sound_change d.config _ r (rooms_of d.config) _ _ c.self.invariant.sound kind)
    (omega (arith, c.reserved-reserved.ensures.value d.config _ c.self.invariant.agrees))
    (omega (arith, change_reserves d.config s (rooms_of d.config) r kind)) allowed.room
    (stay_ready d _ c.self.invariant (change_jobs d.config s (rooms_of d.config) r kind))
