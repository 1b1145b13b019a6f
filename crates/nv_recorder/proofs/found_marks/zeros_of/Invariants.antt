use Rattle.std.proofs.Common.{◌≡◌, map, take}
use Rattle.nv_recorder.specs.FoundMarks.{zeros_for}
use Rattle.nv_recorder.proofs.found_marks.zeros_of.Given as goal

abbrev pub invariant-loop-item : goal.invariant-loop-item
invariant-loop-item l = l.contents.items ≡ map zeros_for (take l.item-index l.numbers)
