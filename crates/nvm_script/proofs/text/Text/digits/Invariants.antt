use Rattle.std.proofs.Common.{◌≤◌, ◌-◌, length, take}
use Rattle.hex.specs.Hex.{encode_lower}
use Rattle.nvm_script.specs.Text.{Adds}
use Rattle.nvm_script.proofs.text.Text.digits.Given as goal

-- the digits of the first `at` bytes were added
abbrev pub invariant-loop-at : goal.invariant-loop-at
invariant-loop-at l = (l.at ≤ length l.bytes) × Adds (encode_lower (take l.at l.bytes)) l.initial.self l.self

abbrev pub decreases-loop-at : goal.decreases-loop-at
decreases-loop-at l = length l.bytes - l.at
