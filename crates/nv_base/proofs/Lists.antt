-- Lengths and marks: how many there can be, and one more.
use Rattle.std.proofs.Common.{◌<◌, ◌≤◌, ℕ, ◌+◌, ◌-◌, Bool, true, false, if◌then◌else◌, List, [], ◌∷◌, ◌++◌, length, arith}
use Rattle.nv_base.specs.declared.instance.DeviceNumber.{DeviceNumber}
use Rattle.nv_base.specs.declared.instance.Instance.{Instance}
use Rattle.nv_base.specs.declared.mark.Mark.{Mark}
use Rattle.nv_base.specs.Lengths.{AreLengths, last_or}
use Rattle.nv_base.specs.Marks.{AreMarks, IsStored, next_or, number_of}

pub AreLengths-few : (low : ℕ) (xs : List (DeviceNumber × ℕ)) → AreLengths low xs → length xs ≤ 65535 - low
AreLengths-few low [] are = omega arith
AreLengths-few low (x ∷ xs) are = omega (arith, AreLengths-few x.0.0 xs are.4)

pub AreLengths-push : (low : ℕ) (xs : List (DeviceNumber × ℕ)) (number : DeviceNumber) (n : ℕ) → AreLengths low xs → last_or low xs < number.0 → number.0 < 65535 → 1 ≤ n → n ≤ 4096 → AreLengths low (xs ++ (number, n) ∷ [])
AreLengths-push low [] number n are above most some few = (above, most, some, few, tt)
AreLengths-push low (x ∷ xs) number n are above most some few = (are.0, are.1, are.2, are.3, AreLengths-push x.0.0 xs number n are.4 above most some few)

pub AreMarks-few : (low : ℕ) (xs : List (Instance × Mark)) → AreMarks low xs → length xs ≤ 65536 - low
AreMarks-few low [] are = omega arith
AreMarks-few low (x ∷ xs) are = omega (arith, AreMarks-few (number_of x.0 + 1) xs are.4)

pub AreMarks-push : (low : ℕ) (xs : List (Instance × Mark)) (i : Instance) (m : Mark) → AreMarks low xs → next_or low xs ≤ number_of i → i.block ≤ 1023 → i.index ≤ 63 → IsStored m → AreMarks low (xs ++ (i, m) ∷ [])
AreMarks-push low [] i m are above block index stored = (above, block, index, stored, tt)
AreMarks-push low (x ∷ xs) i m are above block index stored = (are.0, are.1, are.2, are.3, AreMarks-push (number_of x.0 + 1) xs i m are.4 above block index stored)

-- one more, or none
pub AreMarks-may_push : (b : Bool) (xs : List (Instance × Mark)) (i : Instance) (m : Mark) → AreMarks 0 xs → next_or 0 xs ≤ number_of i → i.block ≤ 1023 → i.index ≤ 63 → IsStored m → AreMarks 0 (if b then xs ++ (i, m) ∷ [] else xs)
AreMarks-may_push true xs i m are above block index stored = AreMarks-push 0 xs i m are above block index stored
AreMarks-may_push false xs i m are above block index stored = are
