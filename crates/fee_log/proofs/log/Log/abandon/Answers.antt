use Rattle.fee_log.proofs.Soundness.{behind_sound}
use Rattle.fee_log.proofs.log.Log.abandon.Goals as goal

pub invariant_of-self-else-done-eq1 : goal.invariant_of-self-else-done-eq1
invariant_of-self-else-done-eq1 c =
    rw c.pages_of.ensures (behind_sound _ c.in-Writes.head c.in-Writes.done c.self.invariant c.in-Writes.is)
