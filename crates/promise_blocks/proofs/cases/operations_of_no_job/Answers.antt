use Rattle.std.proofs.Common.{refl, arith}
use Rattle.promise_blocks.proofs.cases.operations_of_no_job.Goals as goal

pub returns-clause-of_the_first : goal.returns-clause-of_the_first
returns-clause-of_the_first c of = absurd (let less = (of 9 (omega arith) (omega arith)).1 refl in omega (arith, less))

pub returns-clause-behind_it : goal.returns-clause-behind_it
returns-clause-behind_it c of = let on = (of 10 (omega arith) (omega arith)).0 (omega arith) in cc
