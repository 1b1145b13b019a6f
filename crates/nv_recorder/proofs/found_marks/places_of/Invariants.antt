use Rattle.std.proofs.Common.{◌≡◌, map, take}
use Rattle.nv_recorder.specs.FoundMarks.{place_for}
use Rattle.nv_recorder.proofs.found_marks.places_of.Given as goal

abbrev pub invariant-loop-item : goal.invariant-loop-item
invariant-loop-item l = l.places.items ≡ map place_for (take l.item-index l.numbers)
