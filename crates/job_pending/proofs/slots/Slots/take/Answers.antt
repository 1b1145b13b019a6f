use Rattle.job_pending.proofs.Index.{left_at}
use Rattle.job_pending.proofs.slots.Slots.take.Goals as goal

pub returns-clause-left : goal.returns-clause-left
returns-clause-left c =
    rw (← c.self.view_is) (left_at c.self.inside.at.items c.take_at.new.at.items c.self.inside.jobs.items c.take_at.new.jobs.items c.in_ok-place.place c.args.block c.self.inside.room c.take_at.result
    c.self.invariant.0 c.take_at.ensures.value c.take_at.ensures.swapped c.take_at.ensures.indexed c.take_at.ensures.places (rw (← c.self.view_is) at c.in_ok-place.ensures.1))
