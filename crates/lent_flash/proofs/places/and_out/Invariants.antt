use Rattle.std.proofs.Common.{◌≡◌, ◌++◌, take, drop}
use Rattle.std.specs.Mem.Slots.{slots_items}
use Rattle.fls_model.specs.Bytes.{and_bytes}
use Rattle.lent_flash.proofs.places.and_out.Given as goal

abbrev pub invariant-loop-i : goal.invariant-loop-i
invariant-loop-i l = l.into ≡ and_bytes (take l.i (drop l.fn.at (slots_items l.fn.places))) (take l.i l.fn.page) ++ drop l.i l.initial.into
