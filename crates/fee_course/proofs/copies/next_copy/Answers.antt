use Rattle.std.proofs.Common.{◌≡◌, ◌∙◌, ℕ, sym, ap, option_map, length, drop, get_or, add-one, suc, false, arith}
use Rattle.fee_image.specs.declared.place.Place.TheVariants.{Content}
use Rattle.fee_course.proofs.Walks.{next_step, later_twice, none_step, next_behind}
use Rattle.fee_course.specs.Copies.{is_left, later, next_copy}
use Rattle.fee_course.proofs.copies.next_copy.Goals as goal

pub loop-i-init : goal.loop-i-init
loop-i-init c =
    let list = c.as_slice-numbers.result.now in
    let same : length list ≡ length c.args.numbers.now = ap length c.as_slice-numbers.ensures.value in
    (c.requires.none, next_behind c.args.first list c.args.places.now c.args.copied.now (omega (arith, c.requires.places, same)) (omega (arith, c.requires.copied, same)) c.requires.none)

pub loop-i-preserved : goal.loop-i-preserved
loop-i-preserved c =
    let list = c.as_slice-numbers.result.now in
    let places = c.args.places.now in
    let copied = c.args.copied.now in
    let i = c.loop-i.i in
    let same : length list ≡ length c.args.numbers.now = ap length c.as_slice-numbers.ensures.value in
    let rest = next_copy (drop (suc i) list) (drop (suc i) places) (drop (suc i) copied) in
    let e = next_step list places copied i (record { 0 = 0 }, 0) (Content 0 0) false c.loop-i-test.true (omega arith) (omega arith) in
    let kept : is_left (get_or places i (Content 0 0)) (get_or copied i false) ≡ false = sym c.is_left.ensures ∙ c.if-is_left.false in
    let f : next_copy (drop i list) (drop i places) (drop i copied) ≡ option_map (later 1) rest = rw kept at e in
    rw (add-one i) (none_step i places copied (Content 0 0) false c.loop-i.invariant.0 kept, c.loop-i.invariant.1 ∙ ap (option_map (later i)) f ∙ later_twice i rest ∙ ap (λ (n : ℕ). option_map (later n) rest) (add-one i))
