use Rattle.nv_base.proofs.Numerals.{IsUtf8-numeral}
use Rattle.nv_base.proofs.decimal.value.Goals as goal

pub returns-in-Err : goal.returns-in-Err
returns-in-Err c = absurd (c.in-Err.ensures.cases.0 (IsUtf8-numeral _ c.requires))
