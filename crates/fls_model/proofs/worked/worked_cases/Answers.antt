use Rattle.std.proofs.Common.{◌<◌, zero, suc, [], ◌∷◌, refl, arith}
use Rattle.fls_model.specs.Bytes.{AreBytes}
use Rattle.fls_model.proofs.worked.worked_cases.Goals as goal

two : AreBytes (255 ∷ 77 ∷ [])
two zero = omega arith
two (suc zero) = omega arith
two (suc (suc k)) = omega arith

one : AreBytes (12 ∷ [])
one zero = omega arith
one (suc k) = omega arith

pub returns-clause-torn_program : goal.returns-clause-torn_program
returns-clause-torn_program c = (record { size = refl; front = refl; back = refl }, λ old. two)

pub returns-clause-torn_to_no_byte : goal.returns-clause-torn_to_no_byte
returns-clause-torn_to_no_byte c leaves = let no : 300 < 256 = leaves.1 one 0 in absurd (omega arith)
