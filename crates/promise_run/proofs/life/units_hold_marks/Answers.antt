use Rattle.promise_run.proofs.Spells.{holds}
use Rattle.promise_run.proofs.life.units_hold_marks.Goals as goal

pub returns : goal.returns
returns c = holds
