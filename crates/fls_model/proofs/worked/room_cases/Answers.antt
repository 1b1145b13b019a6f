use Rattle.std.proofs.Common.{refl, arith}
use Rattle.fls_model.proofs.worked.room_cases.Goals as goal

pub returns-clause-told : goal.returns-clause-told
returns-clause-told c = record {
  bytes = refl;
  within = (record { size = refl; front = refl; back = refl }, λ old. old);
  changes = refl;
  room = λ n tells. (refl, omega (arith, tells.1));
}

pub returns-clause-full : goal.returns-clause-full
returns-clause-full c = record {
  bytes = refl;
  within = (record { size = refl; front = refl; back = refl }, λ old. old);
  changes = tt;
  room = λ n tells. absurd (omega (arith, tells.1));
}

pub returns-clause-not_told : goal.returns-clause-not_told
returns-clause-not_told c is = let told = (is.room 0 (refl, omega arith)).0 in cc told

pub returns-clause-two_places : goal.returns-clause-two_places
returns-clause-two_places c is = let more = (is.room 1 (refl, omega arith)).1 in omega (arith, more)
