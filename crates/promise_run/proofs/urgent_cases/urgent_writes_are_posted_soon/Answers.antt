use Rattle.promise_run.proofs.UrgentCases.{behind, behind_two}
use Rattle.promise_run.proofs.urgent_cases.urgent_writes_are_posted_soon.Goals as goal

pub returns-clause-behind_another : goal.returns-clause-behind_another
returns-clause-behind_another c = behind

pub returns-clause-behind_two : goal.returns-clause-behind_two
returns-clause-behind_two c = behind_two
