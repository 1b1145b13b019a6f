use Rattle.std.proofs.Common.{◌≡◌, length}
use Rattle.block_config.proofs.DigitPairs.{AreRead}
use Rattle.block_config.proofs.digits.read_digits.Given as goal

abbrev pub invariant-loop-i : goal.invariant-loop-i
invariant-loop-i l = (length l.bytes ≡ length l.initial.bytes) × AreRead l.digits l.bytes l.greatest l.i
