use Rattle.std.proofs.Common.{sym, ◌∙◌}
use Rattle.job_queues.proofs.InOrder.{first_in_order, first_taken}
use Rattle.job_queues.proofs.queue.Queue.next.Goals as goal

pub returns-then-self-clause-first : goal.returns-then-self-clause-first
returns-then-self-clause-first c = rw (← c.self.view_is) (c.pop_front.ensures.value ∙ sym (first_in_order c.self.inside.ring.items (c.self.invariant c.if-self.true)))

pub returns-then-self-clause-taken : goal.returns-then-self-clause-taken
returns-then-self-clause-taken c =
    rw (← c.self.view_is) (first_taken c.pop_front.result c.self.inside.ring c.pop_front.new.self (c.self.invariant c.if-self.true) c.pop_front.ensures.value c.pop_front.ensures.items)
