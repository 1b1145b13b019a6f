use Rattle.std.proofs.Common.{◌≡◌, map, take}
use Rattle.memif.specs.Told.{no_slot}
use Rattle.memif.specs.PlainInside.{AreKept, slot_of}
use Rattle.memif.proofs.kept.room_for.Given as goal

abbrev pub invariant-loop-number : goal.invariant-loop-number
invariant-loop-number l = record {
  room : AreKept (take l.number-index l.numbers) l.list.items;
  erased : map slot_of l.list.items ≡ map (λ n. no_slot) (take l.number-index l.numbers);
}
