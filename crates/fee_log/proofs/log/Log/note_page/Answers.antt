use Rattle.std.proofs.Common.{◌∙◌, ap, arith}
use Rattle.std.proofs.lemmas.List.{take_at}
use Rattle.fee_log.specs.Log.{LogState}
use Rattle.fee_log.proofs.Soundness.{committed_sound}
use Rattle.fee_log.proofs.Within.{within_length}
use Rattle.fee_log.proofs.log.Log.note_page.Goals as goal

pub note-requires : goal.note-requires
note-requires c = rw c.deref_mut.ensures.value (within_length _ _ _ _ c.self.invariant.places)

pub invariant_of-self-2 : goal.invariant_of-self-2
invariant_of-self-2 c =
    rw (take_at c.note.new.places _ c.self.inside.places.len (omega arith), c.note.ensures, c.deref_mut.ensures.value, c.from.ensures, c.pages_of-pages.ensures)
    (committed_sound _ c.args.head c.args.done c.self.invariant (ap (λ (s : LogState). s.tail) c.self.view_is ∙ c.requires.work))
