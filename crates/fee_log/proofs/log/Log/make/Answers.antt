use Rattle.std.proofs.Common.{arith}
use Rattle.fee_log.proofs.Soundness.{erased_sound}
use Rattle.fee_log.proofs.log.Log.make.Goals as goal

pub invariant_of-result : goal.invariant_of-result
invariant_of-result c =
    rw (c.in_ok-flags.ensures, c.in_ok-places.ensures, c.in_ok-numbers.ensures, c.as_slice.ensures.value)
    (erased_sound c.args.geometry c.args.banks c.args.bank c.args.numbers.now c.requires.legal c.requires.banks
    c.requires.bank (omega (arith, c.bank_pages-pages.ensures.value, c.bank_pages-pages.ensures.least)) c.as_slice.ensures.bounds)
