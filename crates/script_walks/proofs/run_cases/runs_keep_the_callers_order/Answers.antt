use Rattle.script_walks.proofs.Runs.{two_callers_run, impatient_caller_no_run}
use Rattle.script_walks.proofs.run_cases.runs_keep_the_callers_order.Goals as goal

pub returns-clause-two_callers : goal.returns-clause-two_callers
returns-clause-two_callers c = two_callers_run

pub returns-clause-impatient_caller : goal.returns-clause-impatient_caller
returns-clause-impatient_caller c = impatient_caller_no_run
