use Rattle.job_queues.proofs.InOrder.{in_order_without}
use Rattle.job_queues.proofs.queue.Queue.remove.Goals as goal

pub invariant_of-self : goal.invariant_of-self
invariant_of-self c ordered = rw c.take_out.ensures (in_order_without c.in_ok-job.job.number c.self.inside.ring.items (c.self.invariant ordered))
