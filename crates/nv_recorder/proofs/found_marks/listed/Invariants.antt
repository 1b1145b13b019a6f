use Rattle.std.proofs.Common.{◌≡◌, ◌≤◌, ◌+◌, ◌++◌, ℕ, length, map}
use Rattle.std.specs.Vec.Iter.{into_iter_items, into_iter_len}
use Rattle.nv_base.specs.Lengths.{AreLengths}
use Rattle.nv_base.specs.Marks.{next_or}
use Rattle.nv_recorder.specs.FoundMarks.{number_at, content_at, AreWhole, marks_at}
use Rattle.nv_recorder.proofs.found_marks.listed.Given as goal

abbrev pub invariant-loop-place : goal.invariant-loop-place
invariant-loop-place l = record {
  marks : l.marks.marks ++ marks_at (into_iter_items l.place-iterator) ≡ marks_at l.fn.places.items;
  ascend : (low : ℕ) × (next_or 0 l.marks.marks ≤ low + 1) × AreLengths low (map number_at (into_iter_items l.place-iterator));
  whole : AreWhole (into_iter_items l.place-iterator);
  contents : into_iter_items l.contents ≡ map content_at (into_iter_items l.place-iterator);
  still : into_iter_len l.contents ≡ length (into_iter_items l.contents);
  room : length (into_iter_items l.place-iterator) ≤ l.marks.room;
  left : into_iter_len l.place-iterator ≡ length (into_iter_items l.place-iterator);
}
