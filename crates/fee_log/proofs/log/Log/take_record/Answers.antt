use Rattle.std.proofs.Common.{◌∙◌, ap, arith}
use Rattle.std.proofs.lemmas.List.{take_at}
use Rattle.fee_log.specs.Load.{with_record}
use Rattle.fee_log.specs.Log.{LogState}
use Rattle.fee_log.proofs.Loading.{taken_sound}
use Rattle.fee_log.proofs.Within.{within_length}
use Rattle.fee_log.proofs.log.Log.take_record.Goals as goal

pub note_record-requires : goal.note_record-requires
note_record-requires c = record { each = rw c.deref_mut.ensures.value (within_length _ _ _ _ c.self.invariant.places) }

pub invariant_of-self : goal.invariant_of-self
invariant_of-self c =
    rw (take_at c.note_record.new.places _ c.self.inside.places.len (omega arith), c.note_record.ensures, c.deref_mut.ensures.value, c.pages_of.ensures)
    (taken_sound _ c.args.head c.args.committed c.self.invariant (ap (λ (s : LogState). s.tail) c.self.view_is ∙ c.requires.closed) c.requires.legal (rw (← c.self.view_is) at c.requires.inside))

pub returns : goal.returns
returns c =
    rw (take_at c.note_record.new.places _ c.self.inside.places.len (omega arith), c.note_record.ensures, c.deref_mut.ensures.value, c.pages_of.ensures)
    (ap (λ (s : LogState). with_record s c.args.head c.args.committed) c.self.view_is)
