use Rattle.std.proofs.Common.{refl}
use Rattle.std.specs.Fmt.{digits}
use Rattle.fee_dump.proofs.cases.banks_are_told.Goals as goal

pub returns-clause-torn : goal.returns-clause-torn
unfolding digits
returns-clause-torn c = refl

pub returns-clause-three : goal.returns-clause-three
unfolding digits
returns-clause-three c = refl
