use Rattle.std.proofs.Common.{refl, arith}
use Rattle.memif.specs.Worked.{new_content}
use Rattle.memif.proofs.worked.worked_marks.Goals as goal

pub returns-clause-adds_a_doubt : goal.returns-clause-adds_a_doubt
returns-clause-adds_a_doubt c = λ keeps. absurd (omega (arith, (keeps.doubts new_content (0, omega arith, refl)).1))
