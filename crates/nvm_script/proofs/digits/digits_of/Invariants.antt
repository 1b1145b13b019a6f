use Rattle.std.proofs.Common.{◌≡◌, ◌*◌, ◌++◌, length, take, drop}
use Rattle.hex.specs.Hex.{encode_with, lower_digits}
use Rattle.nvm_script.proofs.digits.digits_of.Given as goal

-- the digits of the first i bytes stand
abbrev pub invariant-loop-i : goal.invariant-loop-i
invariant-loop-i l = (length l.digits ≡ 128) × (take (2 * l.i) l.digits ++ encode_with lower_digits (drop l.i l.bytes) ≡ encode_with lower_digits l.bytes)
