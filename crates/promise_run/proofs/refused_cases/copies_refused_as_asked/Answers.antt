use Rattle.std.proofs.Common.{Some, None, refl}
use Rattle.block_machine.specs.Words.{Fine, NotOk, TookContent, TookRefused}
use Rattle.promise_run.specs.Cases.{one}
use Rattle.promise_run.proofs.RefusedRuns.{write_comes, later_comes, restore_comes, second_comes}
use Rattle.promise_run.proofs.refused_cases.copies_refused_as_asked.Goals as goal

pub returns-clause-both : goal.returns-clause-both
returns-clause-both c = write_comes 2 2 (TookRefused 2) refl

pub returns-clause-first : goal.returns-clause-first
returns-clause-first c = write_comes 2 1 (TookContent one 0) refl

pub returns-clause-none : goal.returns-clause-none
returns-clause-none c = write_comes 2 0 (TookContent one 0) refl

pub returns-clause-own_content : goal.returns-clause-own_content
returns-clause-own_content c = (2, (2, refl, (2, (tt, refl), (2, (tt, refl), refl))))

pub returns-clause-of_another_block : goal.returns-clause-of_another_block
returns-clause-of_another_block c = write_comes 1 2 (TookContent one 0) refl

pub returns-clause-behind_a_start_up : goal.returns-clause-behind_a_start_up
returns-clause-behind_a_start_up c = later_comes 2 (TookRefused 2) refl

pub returns-clause-copy_in : goal.returns-clause-copy_in
returns-clause-copy_in c = restore_comes 2 NotOk None 2 refl

pub returns-clause-copy_in_made : goal.returns-clause-copy_in_made
returns-clause-copy_in_made c = restore_comes 1 Fine (Some one) 0 refl

pub returns-clause-own_buffer : goal.returns-clause-own_buffer
returns-clause-own_buffer c = (2, (2, refl, (2, (tt, refl), (2, (tt, refl), (2, (tt, refl), refl)))))

pub returns-clause-one_left : goal.returns-clause-one_left
returns-clause-one_left c = second_comes 3 (TookContent one 0) refl refl

pub returns-clause-two_left : goal.returns-clause-two_left
returns-clause-two_left c = second_comes 4 (TookRefused 2) refl refl

pub returns-clause-callers : goal.returns-clause-callers
returns-clause-callers c = (tt, (tt, (refl, refl)))
