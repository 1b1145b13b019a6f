use Rattle.std.proofs.Common.{Some, None}
use Rattle.block_machine.specs.Words.{Fine, NotOk, TookContent, TookRefused, TookStale}
use Rattle.promise_run.specs.Cases.{one}
use Rattle.promise_run.proofs.RefusedRuns.{write_tells, later_tells, restore_tells, second_tells, callers_tell}
use Rattle.promise_run.proofs.refused_cases.copies_not_refused_as_asked.Goals as goal

pub returns-clause-nothing : goal.returns-clause-nothing
returns-clause-nothing c = λ h. cc (write_tells 2 2 (TookContent one 0) h)

pub returns-clause-stale : goal.returns-clause-stale
returns-clause-stale c = λ h. cc (write_tells 2 2 (TookStale 1 0 2) h)

pub returns-clause-too_many : goal.returns-clause-too_many
returns-clause-too_many c = λ h. cc (write_tells 2 1 (TookRefused 2) h)

pub returns-clause-of_another_block : goal.returns-clause-of_another_block
returns-clause-of_another_block c = λ h. cc (write_tells 1 2 (TookRefused 2) h)

pub returns-clause-miscounted : goal.returns-clause-miscounted
returns-clause-miscounted c = λ h. cc (write_tells 2 2 (TookRefused 1) h)

pub returns-clause-forgotten : goal.returns-clause-forgotten
returns-clause-forgotten c = λ h. cc (later_tells 2 (TookContent one 0) h)

pub returns-clause-copy_in_made : goal.returns-clause-copy_in_made
returns-clause-copy_in_made c = λ h. cc (restore_tells 2 Fine (Some one) 0 h)

pub returns-clause-copy_in_refused : goal.returns-clause-copy_in_refused
returns-clause-copy_in_refused c = λ h. cc (restore_tells 1 NotOk None 2 h)

pub returns-clause-too_few : goal.returns-clause-too_few
returns-clause-too_few c = λ h. cc (second_tells 4 (TookContent one 0) h)

pub returns-clause-not_spent : goal.returns-clause-not_spent
returns-clause-not_spent c = λ h. cc (second_tells 3 (TookRefused 2) h)

pub returns-clause-callers : goal.returns-clause-callers
returns-clause-callers c = λ h. cc (callers_tell (TookRefused 2) h)
