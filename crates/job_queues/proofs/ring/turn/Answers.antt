use Rattle.std.proofs.Common.{arith, ◌<◌, length, ap, ◌∙◌}
use Rattle.circular_buffer.specs.Buffer.{buffer}
use Rattle.job_queues.proofs.Turned.{turned_next}
use Rattle.job_queues.proofs.ring.turn.Goals as goal

pub loop-preserved : goal.loop-preserved
loop-preserved c =
    let below : c.loop.counter < length c.args.ring.now.items = omega (arith, c.loop.invariant.0, c.loop-test.true) in
    (c.loop.invariant.0, c.turn_on.ensures ∙ (rw c.loop.invariant.1 (ap (λ xs. buffer xs c.args.ring.now.capacity) (turned_next c.args.number c.loop.counter c.args.ring.now.items below))))
