use Rattle.std.proofs.Common.{◌<◌, ◌≤◌, length, get_or, add-one, arith}
use Rattle.std.proofs.lemmas.Option.{slice_get-get_or}
use Rattle.fee_course.proofs.Walks.{most_step, greatest_step}
use Rattle.fee_course.proofs.copies.copies_most.Goals.{then-most-pages, else-most-pages}
use Rattle.nv_base.proofs.Places.{numbers_are_in_bounds}
use Rattle.fee_course.proofs.copies.copies_most.Goals as goal

pub loop-i-preserved : goal.loop-i-preserved
loop-i-preserved c =
    let numbers = c.args.numbers.now in
    let lt : c.loop-i.i < length numbers = rw c.as_slice-list.ensures.value at c.loop-i-test.true in
    let there = slice_get-get_or numbers c.loop-i.i (record { 0 = 0 }, 0) lt in
    let small : (get_or numbers c.loop-i.i (record { 0 = 0 }, 0)).1 ≤ 4096 =
    (numbers_are_in_bounds 0 numbers c.loop-i.i _ c.as_slice-list.ensures.bounds there).3 in
    let e = most_step c.args.page c.as_slice-list.result.now c.loop-i.i (record { 0 = 0 }, 0) c.loop-i-test.true in
    let g = greatest_step c.args.page c.as_slice-list.result.now c.loop-i.i (record { 0 = 0 }, 0) c.loop-i-test.true in
    rw (add-one c.loop-i.i) (omega (arith, e, g), elim c.if-most-pages.branch [ then-most-pages w ↦ omega (arith, e, g) | else-most-pages w ↦ omega (arith, e, g) ], omega (arith, c.record_pages-pages.ensures.most (rw c.as_slice-list.ensures.value small)))
