use Rattle.std.proofs.Common.{◌∙◌, ap}
use Rattle.fee_log.specs.Log.{LogState}
use Rattle.fee_log.proofs.Soundness.{followed_sound}
use Rattle.fee_log.proofs.log.Log.note_gate.Goals as goal

pub invariant_of-self : goal.invariant_of-self
invariant_of-self c =
    rw c.pages_of.ensures (followed_sound _ c.args.head c.args.next c.self.invariant (ap (λ (s : LogState). s.tail) c.self.view_is ∙ c.requires.work))
