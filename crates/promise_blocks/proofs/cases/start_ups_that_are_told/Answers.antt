use Rattle.std.proofs.Common.{refl, inl, arith}
use Rattle.memif.specs.Told.{First, Second}
use Rattle.promise_blocks.proofs.cases.start_ups_that_are_told.Goals as goal

pub returns-clause-found : goal.returns-clause-found
returns-clause-found c = record { failed = λ p. 0; counted = λ p. inl (omega arith); all = refl }

pub returns-clause-failed : goal.returns-clause-failed
returns-clause-failed c = record { failed = elim [ First ↦ 1 | Second ↦ 0 ]; counted = elim [ First ↦ inl (omega arith) | Second ↦ inl (omega arith) ]; all = refl }
