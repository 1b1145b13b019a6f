use Rattle.std.proofs.Common.{◌≡◌, ◌<◌, ◌∙◌, length, sym, ap, subst, arith}
use Rattle.block_machine.specs.Words.{Ask, Accepted}
use Rattle.block_machine.specs.State.{Job}
use Rattle.block_machine.specs.Blocks.{asked_block, asked_content, is_immediate, job_block, rank_of}
use Rattle.block_machine.specs.Reply.{needed}
use Rattle.block_machine.specs.Steps.{after}
use Rattle.job_pending.specs.Unpicked.{unpicked_in}
use Rattle.job_pending.specs.Pending.{most_of}
use Rattle.nv_desk.specs.Incoming.{request_in}
use Rattle.nv_desk.proofs.Asks.{job_accepted, known_of}
use Rattle.nv_desk.proofs.Coming.{ask_below, recordable, recordable_still}
use Rattle.nv_desk.proofs.Jobs.{new_job, few_entries, few_unpicked, few_reserved, has_place, job_is, job_agrees, job_reserves, job_sound, no_sweep}
use Rattle.nv_desk.proofs.Entries.{ask_kept, counted_still, job_places}
use Rattle.nv_desk.proofs.Ready.{asked_fits, asked_place}
use Rattle.nv_desk.proofs.desk.Desk.accept_job.Goals as goal

pub overflow_add-reserved : goal.overflow_add-reserved
overflow_add-reserved c =
    let few = few_entries c.self.inside c.args.caller (request_in c.args.incoming) _ _ c.self.invariant c.requires.kind (rw (← c.self.view_is) at c.requires.allowed)
    ((rw (← c.self.view_is) at c.needed-needed.ensures) ∙ ap (needed c.self.inside.config) c.lent-request.ensures) (c.reserved.ensures.value _ _ c.self.invariant.agrees) in
    omega (arith, few)

pub take_memory-requires-clause-few : goal.take_memory-requires-clause-few
take_memory-requires-clause-few c = few_entries c.self.inside c.args.caller (request_in c.args.incoming) _ _ c.self.invariant c.requires.kind (rw (← c.self.view_is) at c.requires.allowed)
    ((rw (← c.self.view_is) at c.needed-needed.ensures) ∙ ap (needed c.self.inside.config) c.lent-request.ensures) (c.reserved.ensures.value _ _ c.self.invariant.agrees)

pub take_memory-requires-clause-comes : goal.take_memory-requires-clause-comes
take_memory-requires-clause-comes c = recordable c.self.inside c.args.incoming c.self.invariant (rw (← c.self.view_is) at c.requires.comes)

pub add_ask-requires-clause-below : goal.add_ask-requires-clause-below
add_ask-requires-clause-below c =
    let allowed = rw (← c.self.view_is) at c.requires.allowed in
    ask_below c.self.inside c.take_memory.new.history c.take_memory.ensures.same allowed.room

pub add_ask-requires-clause-comes : goal.add_ask-requires-clause-comes
add_ask-requires-clause-comes c = recordable_still c.self.inside.history c.take_memory.new.history c.args.incoming c.take_memory.ensures.same
    (recordable c.self.inside c.args.incoming c.self.invariant (rw (← c.self.view_is) at c.requires.comes))

pub in_place-asked_for-requires-clause-kind : goal.in_place-asked_for-requires-clause-kind
in_place-asked_for-requires-clause-kind c = rw c.lent-request.ensures c.requires.kind

pub in_place-asked_for-requires-clause-place : goal.in_place-asked_for-requires-clause-place
in_place-asked_for-requires-clause-place c =
    let d = c.self.inside in
    let s = after d.config d.history.entries in
    let allowed = rw (← c.self.view_is) at c.requires.allowed in
    let passed = job_accepted d.config d.history.cap s (request_in c.args.incoming) c.requires.kind allowed.replies in
    let known = known_of (length d.config.blocks) (asked_block (request_in c.args.incoming)) passed.known in
    rw c.lent-request.ensures (asked_fits d.config d.places (asked_block (request_in c.args.incoming)) (asked_content (request_in c.args.incoming))
    (asked_place d.config s (asked_block (request_in c.args.incoming)) d.places known.1 passed.free c.self.invariant.sound.jobs c.self.invariant.ready) passed.content)

pub accept-requires-clause-known : goal.accept-requires-clause-known
accept-requires-clause-known c =
    let d = c.self.inside in
    let s = after d.config d.history.entries in
    let allowed = rw (← c.self.view_is) at c.requires.allowed in
    has_place d.config d.history.cap s d.kept (request_in c.args.incoming) c.accepted-job.result
    (job_accepted d.config d.history.cap s (request_in c.args.incoming) c.requires.kind allowed.replies) c.self.invariant.agrees
    (ap job_block c.accepted-job.ensures ∙ ap asked_block (c.in_place-asked_for.ensures.request ∙ c.lent-request.ensures))

pub accept-requires-clause-room : goal.accept-requires-clause-room
accept-requires-clause-room c =
    let d = c.self.inside in
    let s = after d.config d.history.entries in
    let r = request_in c.args.incoming in
    let allowed = rw (← c.self.view_is) at c.requires.allowed in
    let passed = job_accepted d.config d.history.cap s r c.requires.kind allowed.replies in
    let immediate : (rank_of d.config c.accepted-job.result).immediate ≡ is_immediate d.config r =
    ap (λ (j : Job). (rank_of d.config j).immediate) c.accepted-job.ensures ∙ ap (is_immediate d.config) (c.in_place-asked_for.ensures.request ∙ c.lent-request.ensures) in
    subst (λ i. unpicked_in i d.kept.jobs.unpicked < most_of d.config i) (sym immediate) (few_unpicked d.config d.kept s (is_immediate d.config r) passed.queue c.self.invariant.agrees)

pub accept-requires-clause-reserved : goal.accept-requires-clause-reserved
accept-requires-clause-reserved c =
    let few = few_reserved c.self.inside c.args.caller (request_in c.args.incoming) _ c.self.invariant c.requires.kind (rw (← c.self.view_is) at c.requires.allowed)
    ((rw (← c.self.view_is) at c.needed-needed.ensures) ∙ ap (needed c.self.inside.config) c.lent-request.ensures) in
    omega (arith, few, ap (λ (j : Job). j.reserved) c.accepted-job.ensures)

pub invariant_of-self-2 : goal.invariant_of-self-2
invariant_of-self-2 c =
    let d = c.self.inside in
    let s = after d.config d.history.entries in
    let allowed = rw (← c.self.view_is) at c.requires.allowed in
    let need = (rw (← c.self.view_is) at c.needed-needed.ensures) ∙ ap (needed d.config) c.lent-request.ensures in
    let passed = job_accepted d.config d.history.cap s (request_in c.args.incoming) c.requires.kind allowed.replies in
    let count = c.len.ensures.count ∙ counted_still d c.take_memory.new.history c.take_memory.ensures.same in
    let job = job_is d.config s.count c.len.result c.needed-needed.result (request_in c.args.incoming) c.in_place-asked_for.result c.accepted-job.result c.accepted-job.ensures count (c.in_place-asked_for.ensures.request ∙ c.lent-request.ensures) need in
    let new = new_job d.config d.history.cap s (request_in c.args.incoming) c.accepted-job.result c.self.invariant.sound passed (ap job_block job)
    (ap (λ (j : Job). j.number) job) in
    let none = no_sweep d.config s c.self.invariant.sound.consistent passed.alone in
    ask_kept d _ _ _ _ (Ask c.args.caller (request_in c.args.incoming) Accepted) _ (needed d.config (request_in c.args.incoming)) c.self.invariant
    c.take_memory.ensures.same c.in_ok-take_memory.ensures.entries c.add_ask.ensures allowed
    (job_agrees d.config c.accept.new.self s (request_in c.args.incoming) c.accepted-job.result c.requires.kind job
    (c.accept.ensures s c.self.invariant.agrees new (ap (λ (j : Job). j.taken) job) none))
    (λ consistent. job_sound d.config d.history.cap s c.args.caller (request_in c.args.incoming) c.self.invariant.sound consistent c.requires.kind allowed.started passed)
    (omega (arith, need, c.reserved.ensures.value d.config s c.self.invariant.agrees)) (job_reserves d.config s (request_in c.args.incoming) c.requires.kind) passed.room
    (job_places d c.in_place-asked_for.new.places c.args.caller (request_in c.args.incoming) c.self.invariant c.requires.kind (rw c.lent-request.ensures at c.in_place-asked_for.ensures.places))
