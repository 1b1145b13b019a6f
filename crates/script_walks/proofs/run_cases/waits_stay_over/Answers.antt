use Rattle.script_walks.proofs.FullRuns.{next_ask, no_early_ask}
use Rattle.script_walks.proofs.run_cases.waits_stay_over.Goals as goal

pub returns-clause-over : goal.returns-clause-over
returns-clause-over c = next_ask

pub returns-clause-too_early : goal.returns-clause-too_early
returns-clause-too_early c = no_early_ask
