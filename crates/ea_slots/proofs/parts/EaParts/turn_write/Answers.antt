use Rattle.std.proofs.Common.{◌<◌, ◌≤◌, ◌+◌, length, take, sym, ap, ◌∙◌, subst}
use Rattle.ea_image.specs.Laws.{IsSlotOf}
use Rattle.ea_told.specs.Parts.{Parts}
use Rattle.ea_told.specs.Laws.{IsStepping}
use Rattle.ea_slots.proofs.Places.{place_in, few_in}
use Rattle.ea_slots.proofs.Telling.{slot_in}
use Rattle.ea_slots.proofs.parts.EaParts.turn_write.Goals as goal

pub is_writable-requires : goal.is_writable-requires
is_writable-requires g c = place_in g.O.Origin.making g.O.Origin.entry c.args.self.now c.args.job c.requires.sound c.requires.job

pub head_of-head-requires-clause-place : goal.head_of-head-requires-clause-place
head_of-head-requires-clause-place g c = place_in g.O.Origin.making g.O.Origin.entry c.args.self.now c.args.job c.requires.sound c.requires.job

pub at-requires : goal.at-requires
at-requires g c = subst (λ (x : Parts). c.args.job.place < length x.states) (sym c.self.view_is) (place_in g.O.Origin.making g.O.Origin.entry c.args.self.now c.args.job c.requires.sound c.requires.job)

pub front-requires : goal.front-requires
front-requires g c = subst (λ (x : Parts). c.args.job.length ≤ length x.content) (sym c.self.view_is) (few_in g.O.Origin.making g.O.Origin.entry c.args.self.now c.args.job c.requires.sound c.requires.job)

pub make_step-answer-requires-clause-slot : goal.make_step-answer-requires-clause-slot
make_step-answer-requires-clause-slot g c =
    let at : IsStepping g.O.Origin.making g.O.Origin.entry c.args.self.now c.args.job = record { sound = c.requires.sound; job = c.requires.job; writes = c.requires.op; on = c.requires.on; writable = sym c.is_writable.ensures ∙ c.if-not-is_writable.false } in
    subst (λ (x : Parts). IsSlotOf x.geometry (c.args.job.place + 1) c.args.job.place c.head_of-head.result c.front.result.now) (sym c.self.view_is)
    (slot_in g.O.Origin.making g.O.Origin.entry c.args.self.now c.args.job _ _ at c.head_of-head.ensures (c.front.ensures.front ∙ ap (λ (x : Parts). take c.args.job.length x.content) c.self.view_is))

pub step_done-requires-clause-place : goal.step_done-requires-clause-place
step_done-requires-clause-place g c = subst (λ (x : Parts). c.args.job.place < length x.states) (sym c.self.view_is) (place_in g.O.Origin.making g.O.Origin.entry c.args.self.now c.args.job c.requires.sound c.requires.job)

pub step_failed-requires-clause-place : goal.step_failed-requires-clause-place
step_failed-requires-clause-place g c = subst (λ (x : Parts). c.args.job.place < length x.states) (sym c.self.view_is) (place_in g.O.Origin.making g.O.Origin.entry c.args.self.now c.args.job c.requires.sound c.requires.job)

pub step_failed-requires-in-Off-clause-place : goal.step_failed-requires-in-Off-clause-place
step_failed-requires-in-Off-clause-place g c = subst (λ (x : Parts). c.args.job.place < length x.states) (sym c.self.view_is) (place_in g.O.Origin.making g.O.Origin.entry c.args.self.now c.args.job c.requires.sound c.requires.job)
