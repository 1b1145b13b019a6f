use Rattle.std.proofs.Common.{refl, inl, inr, arith}
use Rattle.promise_blocks.proofs.cases.failures_that_are_paid.Goals as goal

pub returns-clause-faults : goal.returns-clause-faults
returns-clause-faults c = record { faults = 2; counted = inl (omega arith); pay = inl (omega arith, inl (omega arith, inl (omega arith, inl (omega arith, tt)))) }

pub returns-clause-worn : goal.returns-clause-worn
returns-clause-worn c = record {
  faults = 0;
  counted = inl (omega arith);
  pay = inl (omega arith, inl (omega arith, inl (omega arith, inr ((_, refl, refl, record { index = 0; failed = (0, omega arith, refl); moment = 7; by_then = omega arith; is = (refl, refl, omega arith) }), tt))));
}
