use Rattle.std.proofs.Common.{◌<◌, ℕ, get_or}
use Rattle.std.specs.Mem.Slots.{slots_items}
use Rattle.lent_flash.proofs.places.below_256.Given as goal

abbrev pub invariant-loop-i : goal.invariant-loop-i
invariant-loop-i l = (k : ℕ) → k < l.i → get_or (slots_items l.fn.places) k 0 < 256
