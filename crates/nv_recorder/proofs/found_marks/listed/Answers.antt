use Rattle.std.proofs.Common.{◌≡◌, ◌≤◌, ◌+◌, ◌∷◌, ◌++◌, length, map, ap, arith, ◌∙◌, sym, subst}
use Rattle.std.specs.Vec.Iter.{into_iter_items}
use Rattle.nv_base.specs.Marks.{next_or}
use Rattle.nv_recorder.specs.FoundMarks.{content_at, marks_at}
use Rattle.nv_recorder.proofs.FoundPlaces.{marks_on, next_on, next_place, next_content}
use Rattle.nv_recorder.proofs.found_marks.listed.Goals as goal

pub loop-place-preserved : goal.loop-place-preserved
loop-place-preserved c =
    let at = c.loop-place in
    let so = at.invariant in
    let p = c.in-Some.place in
    let rest = into_iter_items c.next.new.self in
    let steps : into_iter_items at.place-iterator ≡ p ∷ rest = c.in-Some.ensures.steps.0 in
    let short = ap length steps in
    let is = next_place (next_or 0 at.marks.marks) so.ascend.0 (into_iter_items at.place-iterator) p rest steps so.ascend.1 so.ascend.2 so.whole in
    let content = next_content c.next-in-loop-place.result _ _ _ (into_iter_items c.next-in-loop-place.new.self) (content_at p) (map content_at rest)
    (so.contents ∙ ap (map content_at) steps) so.still c.next-in-loop-place.ensures.cases in
    record {
      marks = ap (λ ms. ms ++ marks_at rest) c.add.ensures.marks ∙ marks_on at.marks.marks p rest ∙ ap (λ ps. at.marks.marks ++ marks_at ps) (sym steps) ∙ so.marks;
      ascend = (p.number.0, subst (λ ms. next_or 0 ms ≤ p.number.0 + 1) (sym c.add.ensures.marks) (next_on at.marks.marks p is.above), is.ascend);
      whole = is.others;
      contents = content.1;
      still = content.2;
      room = (let room = so.room in let more = c.add.ensures.room in omega (arith, room, more, short));
      left = (let was = so.left in let gone = c.in-Some.ensures.steps.1 in omega (arith, was, gone, short));
    }

pub add-requires : goal.add-requires
add-requires c =
    let at = c.loop-place in
    let so = at.invariant in
    let p = c.in-Some.place in
    let rest = into_iter_items c.next.new.self in
    let steps : into_iter_items at.place-iterator ≡ p ∷ rest = c.in-Some.ensures.steps.0 in
    let is = next_place (next_or 0 at.marks.marks) so.ascend.0 (into_iter_items at.place-iterator) p rest steps so.ascend.1 so.ascend.2 so.whole in
    record {
      content = (next_content c.next-in-loop-place.result _ _ _ (into_iter_items c.next-in-loop-place.new.self) (content_at p) (map content_at rest)
          (so.contents ∙ ap (map content_at) steps) so.still c.next-in-loop-place.ensures.cases).0;
      room = (let room = so.room in let short = ap length steps in omega (arith, room, short));
      above = is.above;
      whole = is.whole;
      some = is.some;
    }
