use Rattle.std.proofs.Common.{◌≡◌, ap, length, get_or, add-one, false, arith}
use Rattle.std.proofs.lemmas.Option.{slice_get-get_or}
use Rattle.nv_base.specs.Lengths.{AreLengths}
use Rattle.fee_image.specs.declared.place.Place.TheVariants.{Unwritten}
use Rattle.fee_course.proofs.Walks.{left_step, appended_length, cleared_length}
use Rattle.fee_course.specs.Copies.{turns_of, as_copied, as_cleared, as_appended}
use Rattle.nv_base.proofs.Places.{numbers_are_in_bounds}
use Rattle.fee_course.proofs.copies.copies_left.Goals as goal

pub turns_of-turns-requires-clause-length : goal.turns_of-turns-requires-clause-length
turns_of-turns-requires-clause-length c =
    let list = c.as_slice-list.result.now in
    let all : AreLengths 0 list = rw c.as_slice-list.ensures.value c.as_slice-list.ensures.bounds in
    let there = slice_get-get_or list c.loop-i.i _ c.loop-i-test.true in
    (numbers_are_in_bounds 0 list c.loop-i.i _ all there).3

pub loop-i-preserved : goal.loop-i-preserved
loop-i-preserved c =
    let list = c.as_slice-list.result.now in
    let i = c.loop-i.i in
    let places = as_appended c.args.appended c.args.places.now in
    let copied = as_cleared c.args.appended (as_copied c.args.in_work c.args.copied.now) in
    let a = appended_length c.args.appended c.args.places.now in
    let b = cleared_length c.args.appended c.args.in_work c.args.copied.now in
    let same : length list ≡ length c.args.numbers.now = ap length c.as_slice-list.ensures.value in
    let e = left_step c.args.page list places copied i (record { 0 = 0 }, 0) Unwritten false c.loop-i-test.true (omega arith) (omega arith) in
    let t = c.turns_of-turns.ensures.value in
    let t2 : c.turns_of-turns.result ≡ turns_of c.args.page (get_or list i (record { 0 = 0 }, 0)).1 (get_or places i Unwritten) (get_or copied i false) = rw (← c.place_as-place.ensures Unwritten, ← c.copied_as-done.ensures false) t in
    rw add-one (omega (arith, e, t2), omega (arith, c.turns_of-turns.ensures.most))
