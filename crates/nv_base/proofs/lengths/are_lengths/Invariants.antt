use Rattle.std.proofs.Common.{drop, ◌↔◌}
use Rattle.nv_base.specs.Lengths.{AreLengths}
use Rattle.nv_base.proofs.lengths.are_lengths.Given as goal

-- the list is one exactly where its rest ascends above the last number so far
abbrev pub invariant-loop-item : goal.invariant-loop-item
invariant-loop-item l = AreLengths 0 l.items ↔ AreLengths l.low (drop l.item-index l.items)
