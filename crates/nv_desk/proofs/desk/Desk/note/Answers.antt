use Rattle.std.proofs.Common.{ap, arith}
use Rattle.block_machine.specs.Words.{Ask}
use Rattle.block_machine.specs.State.{jobs_of}
use Rattle.block_machine.specs.Reply.{reserved_entries}
use Rattle.nv_desk.specs.Incoming.{request_in}
use Rattle.nv_desk.proofs.Coming.{ask_below, recordable, recordable_still}
use Rattle.nv_desk.proofs.Requests.{same_sound}
use Rattle.nv_desk.proofs.Entries.{ask_kept, stay_ready}
use Rattle.nv_desk.proofs.desk.Desk.note.Goals as goal

pub take_memory-requires-clause-comes : goal.take_memory-requires-clause-comes
take_memory-requires-clause-comes c = recordable c.self.inside c.args.incoming c.self.invariant (rw (← c.self.view_is) at c.requires.comes)

pub add_ask-requires-clause-below : goal.add_ask-requires-clause-below
add_ask-requires-clause-below c =
    let allowed = rw (← c.self.view_is) at c.requires.allowed in
    ask_below c.self.inside c.take_memory.new.history c.take_memory.ensures.same allowed.room

pub add_ask-requires-clause-comes : goal.add_ask-requires-clause-comes
add_ask-requires-clause-comes c = recordable_still c.self.inside.history c.take_memory.new.history c.args.incoming c.take_memory.ensures.same
    (recordable c.self.inside c.args.incoming c.self.invariant (rw (← c.self.view_is) at c.requires.comes))

pub invariant_of-self-2 : goal.invariant_of-self-2
invariant_of-self-2 c =
    let d = c.self.inside in
    let r = request_in c.args.incoming in
    let same = rw (← c.self.view_is) at c.requires.same in
    let allowed = rw (← c.self.view_is) at c.requires.allowed in
    ask_kept d _ _ d.kept d.places (Ask c.args.caller r c.args.reply) _ 0 c.self.invariant
    c.take_memory.ensures.same c.in_ok-take_memory.ensures.entries c.add_ask.ensures allowed (rw same c.self.invariant.agrees)
    (λ consistent. same_sound d.config _ c.args.caller r c.args.reply c.self.invariant.sound consistent same)
    (omega (arith, c.reserved-reserved.ensures.value d.config _ c.self.invariant.agrees)) (omega (arith, ap (reserved_entries d.config) same)) allowed.room
    (stay_ready d _ c.self.invariant (ap jobs_of same))
