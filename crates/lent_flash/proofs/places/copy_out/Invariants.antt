use Rattle.std.proofs.Common.{◌≡◌, ◌++◌, take, drop}
use Rattle.std.specs.Mem.Slots.{slots_items}
use Rattle.lent_flash.proofs.places.copy_out.Given as goal

abbrev pub invariant-loop-i : goal.invariant-loop-i
invariant-loop-i l = l.into ≡ take l.i (drop l.fn.at (slots_items l.fn.places)) ++ drop l.i l.initial.into
