use Rattle.promise_run.proofs.KeptCases.{not_by_none, not_by_standard}
use Rattle.promise_run.proofs.kept_cases.kept_pages_are_for_urgent_writes.Goals as goal

pub returns-clause-by_a_standard_job : goal.returns-clause-by_a_standard_job
returns-clause-by_a_standard_job c = not_by_standard

pub returns-clause-with_no_job : goal.returns-clause-with_no_job
returns-clause-with_no_job c = not_by_none
