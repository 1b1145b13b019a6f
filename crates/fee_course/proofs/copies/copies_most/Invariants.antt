use Rattle.std.proofs.Common.{◌≡◌, ◌≤◌, ◌+◌, ◌*◌, drop}
use Rattle.std.specs.Prelude.{max}
use Rattle.fee_course.specs.Copies.{copies_most, greatest}
use Rattle.fee_course.proofs.copies.copies_most.Given as goal

abbrev pub invariant-loop-i : goal.invariant-loop-i
invariant-loop-i l =
    (l.turns + copies_most l.page (drop l.i l.list) ≡ copies_most l.page l.list)
    × (max l.most (greatest l.page (drop l.i l.list)) ≡ greatest l.page l.list) × (l.turns ≤ 260 * l.i)
