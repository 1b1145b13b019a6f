use Rattle.promise_run.proofs.OperationLaws.{runs_make_few}
use Rattle.promise_run.proofs.operation_cases.operations_are_bounded.Goals as goal

pub returns-clause-runs : goal.returns-clause-runs
returns-clause-runs c = runs_make_few
