use Rattle.std.proofs.Common.{sym, ◌∙◌}
use Rattle.job_queues.proofs.InOrder.{first_in_order}
use Rattle.job_queues.proofs.queue.Queue.first.Goals as goal

pub returns-then-self : goal.returns-then-self
returns-then-self c = rw (← c.self.view_is) (c.copied.ensures ∙ c.front.ensures ∙ sym (first_in_order c.self.inside.ring.items (c.self.invariant c.if-self.true)))
