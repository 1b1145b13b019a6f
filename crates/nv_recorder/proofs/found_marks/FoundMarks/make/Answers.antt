use Rattle.std.proofs.Common.{◌≡◌, ◌∙◌, length, map, sym, ap, subst, arith}
use Rattle.std.proofs.lemmas.List.{length-map}
use Rattle.nv_base.specs.Lengths.{AreLengths}
use Rattle.nv_recorder.specs.FoundMarks.{AreWhole, content_at, number_at, place_for, zeros_for}
use Rattle.nv_recorder.proofs.FoundPlaces.{numbers_first, whole_first, contents_first}
use Rattle.nv_recorder.proofs.found_marks.FoundMarks.make.Goals as goal

pub invariant_of-result : goal.invariant_of-result
invariant_of-result c =
    let ns = c.args.lengths.now in
    let ps = c.in_ok-places.places.items in
    let same : ps ≡ map place_for ns = c.in_ok-places.ensures ∙ ap (map place_for) c.as_slice.ensures.value in
    let count : length ps ≡ length ns = ap length same ∙ length-map ns place_for in
    let numbers : map number_at ps ≡ ns = ap (map number_at) same ∙ numbers_first ns in
    let again = ap length c.as_slice-2.ensures.value in
    record {
      numbers = subst (AreLengths 0) (sym numbers) c.as_slice.ensures.bounds;
      whole = subst AreWhole (sym same) (whole_first ns);
      empty = c.in_ok-list.ensures.empty;
      listed = c.in_ok-list.ensures.room;
      kept = λ few. c.in_ok-contents.ensures.kept (omega (arith, few, count, again)) ∙ ap (map zeros_for) c.as_slice-2.ensures.value ∙ sym (contents_first ns) ∙ ap (map content_at) (sym same);
      counted = λ some. (let few = c.in_ok-contents.ensures.counted some in omega (arith, few, count, again));
    }

pub returns-clause-numbers : goal.returns-clause-numbers
returns-clause-numbers c = ap (map number_at) (c.in_ok-places.ensures ∙ ap (map place_for) c.as_slice.ensures.value) ∙ numbers_first c.args.lengths.now
