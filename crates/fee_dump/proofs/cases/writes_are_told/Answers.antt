use Rattle.std.proofs.Common.{refl}
use Rattle.std.specs.Fmt.{digits}
use Rattle.fee_dump.proofs.cases.writes_are_told.Goals as goal

pub returns-clause-first : goal.returns-clause-first
unfolding digits
returns-clause-first c = refl

pub returns-clause-cut : goal.returns-clause-cut
unfolding digits
returns-clause-cut c = refl

pub returns-clause-counted : goal.returns-clause-counted
unfolding digits
returns-clause-counted c = refl
