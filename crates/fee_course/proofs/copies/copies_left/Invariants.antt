use Rattle.std.proofs.Common.{◌≡◌, ◌≤◌, ◌+◌, ◌*◌, drop}
use Rattle.fee_course.specs.Copies.{copies_left, as_copied, as_cleared, as_appended}
use Rattle.fee_course.proofs.copies.copies_left.Given as goal

abbrev pub invariant-loop-i : goal.invariant-loop-i
invariant-loop-i l =
    let places = as_appended l.appended l.places in
    let copied = as_cleared l.appended (as_copied l.in_work l.copied) in
    (l.turns + copies_left l.page (drop l.i l.list) (drop l.i places) (drop l.i copied) ≡ copies_left l.page l.list places copied) × (l.turns ≤ 260 * l.i)
