use Rattle.fee_log.proofs.Soundness.{behind_sound}
use Rattle.fee_log.proofs.log.Log.note_failed.Goals as goal

pub invariant_of-self : goal.invariant_of-self
invariant_of-self c =
    rw c.pages_of.ensures (behind_sound _ c.in-Writes.head c.in-Writes.done c.self.invariant c.in-Writes.is)
