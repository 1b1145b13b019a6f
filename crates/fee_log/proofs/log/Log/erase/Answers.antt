use Rattle.std.proofs.Common.{arith}
use Rattle.std.proofs.lemmas.List.{take_at}
use Rattle.fee_log.proofs.Within.{within_length}
use Rattle.fee_log.proofs.Soundness.{erased_sound}
use Rattle.fee_log.proofs.log.Log.erase.Goals as goal

pub forget-requires : goal.forget-requires
forget-requires c = rw c.deref_mut.ensures.value (within_length _ _ _ _ c.self.invariant.places)

pub invariant_of-self : goal.invariant_of-self
invariant_of-self c =
    rw (
      take_at c.forget.new.places _ c.self.inside.places.len (omega arith),
      c.forget.ensures,
      take_at c.clear_all.new.flags _ c.self.inside.flags.len (omega arith),
      c.clear_all.ensures,
    )
    (erased_sound c.self.inside.geometry c.self.inside.banks c.self.inside.bank c.self.inside.numbers
    c.self.invariant.geometry c.self.invariant.shared c.self.invariant.bank
    (omega (arith, c.self.invariant.end_low, c.self.invariant.end_high)) c.self.invariant.numbers)
