use Rattle.uds_runs.proofs.Causes.{answers_have_causes}
use Rattle.uds_runs.proofs.laws.answers_have_causes.Goals as goal

pub returns : goal.returns
returns c = answers_have_causes
