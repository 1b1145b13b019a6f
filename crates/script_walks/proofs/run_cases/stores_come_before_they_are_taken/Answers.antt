use Rattle.script_walks.proofs.Looks.{late_run, no_store_behind_its_wait, no_store_behind_a_request, twice_run}
use Rattle.script_walks.proofs.run_cases.stores_come_before_they_are_taken.Goals as goal

pub returns-clause-behind_its_write : goal.returns-clause-behind_its_write
returns-clause-behind_its_write c = late_run

pub returns-clause-behind_a_wait : goal.returns-clause-behind_a_wait
returns-clause-behind_a_wait c = no_store_behind_its_wait

pub returns-clause-behind_a_request : goal.returns-clause-behind_a_request
returns-clause-behind_a_request c = no_store_behind_a_request

pub returns-clause-once_it_was_over : goal.returns-clause-once_it_was_over
returns-clause-once_it_was_over c = twice_run
