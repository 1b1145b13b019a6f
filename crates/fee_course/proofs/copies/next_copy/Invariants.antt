use Rattle.std.proofs.Common.{◌≡◌, drop, option_map}
use Rattle.fee_course.specs.Copies.{later, next_copy, NoneLeft}
use Rattle.fee_course.proofs.copies.next_copy.Given as goal

abbrev pub invariant-loop-i : goal.invariant-loop-i
invariant-loop-i l =
    NoneLeft l.i l.places l.copied
    × (next_copy l.initial.numbers l.places l.copied ≡ option_map (later l.i) (next_copy (drop l.i l.numbers) (drop l.i l.places) (drop l.i l.copied)))
