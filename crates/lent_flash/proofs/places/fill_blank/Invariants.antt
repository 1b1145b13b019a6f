use Rattle.std.proofs.Common.{◌≡◌, ◌+◌, ◌++◌, take, drop, replicate}
use Rattle.std.specs.Mem.Slots.{slots_items, slots_len, IsFull}
use Rattle.lent_flash.proofs.places.fill_blank.Given as goal

abbrev pub invariant-loop-i : goal.invariant-loop-i
invariant-loop-i l =
    (slots_items l.places ≡ take l.fn.at (slots_items l.initial.places) ++ replicate l.i 255 ++ drop (l.fn.at + l.i) (slots_items l.initial.places)) × IsFull l.places
    × (slots_len l.places ≡ slots_len l.initial.places)
