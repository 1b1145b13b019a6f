use Rattle.std.proofs.Common.{◌≡◌, ◌<◌, ◌∙◌, ℕ, List, length, map, sym, ap, subst, get_or, set, arith}
use Rattle.std.proofs.lemmas.List.{length-set}
use Rattle.nv_base.specs.Lengths.{AreLengths}
use Rattle.nv_base.specs.declared.instance.DeviceNumber.{DeviceNumber}
use Rattle.nv_recorder.specs.declared.found_marks.FoundPlace.{FoundPlace}
use Rattle.nv_recorder.specs.FoundMarks.{IsWhole, content_at, number_at, place_for, with_content, with_mark}
use Rattle.nv_recorder.proofs.FoundPlaces.{content_whole, whole_at, whole_set, numbers_set, held_whole, held_number, held_contents, held_length}
use Rattle.nv_recorder.proofs.found_marks.FoundMarks.hold.Goals as goal

pub keep-requires : goal.keep-requires
keep-requires c = λ d few is.
    let ps = c.self.inside.places.items in
    let p : FoundPlace = place_for (record { 0 = 0 }, 0) in
    let below : c.args.i < length ps = rw (← c.self.view_is) at c.requires.below in
    let fits : length c.args.content.now ≡ (get_or ps c.args.i p).length = rw (← c.self.view_is) at (c.requires.fits p is) in
    let same = c.self.invariant.kept (c.self.invariant.counted (omega (arith, few))) in
    fits ∙ sym (content_whole ps c.args.i d p below c.self.invariant.whole) ∙ ap (λ (cs : List (List ℕ)). length (get_or cs c.args.i d)) (sym same)

pub invariant_of-self : goal.invariant_of-self
invariant_of-self c =
    let p = c.index_mut.result.now in
    let ps = c.self.inside.places.items in
    let i = c.args.i in
    let kind = c.args.kind in
    let bytes = c.args.content.now in
    let below : i < length ps = rw (← c.self.view_is) at c.requires.below in
    let at : p ≡ get_or ps i p = c.index_mut.ensures.value in
    let whole : IsWhole p = subst IsWhole (sym at) (whole_at ps i p below c.self.invariant.whole) in
    let held : c.hold.new.self ≡ with_mark kind bytes (get_or ps i p) = c.hold.ensures ∙ ap (with_mark kind bytes) at in
    let same : number_at c.hold.new.self ≡ number_at (get_or ps i p) = ap number_at held ∙ held_number kind bytes (get_or ps i p) in
    let count = length-set ps i c.hold.new.self in
    record {
      numbers = subst (λ (ns : List (DeviceNumber × ℕ)). AreLengths 0 ns) (sym (numbers_set ps i c.hold.new.self p below same)) c.self.invariant.numbers;
      whole = whole_set ps i c.hold.new.self c.self.invariant.whole (subst IsWhole (sym c.hold.ensures) (held_whole kind bytes p
          (λ is. (rw (← c.self.view_is) at (c.requires.fits p is)) ∙ ap (λ (q : FoundPlace). q.length) (sym at)) whole));
      empty = c.self.invariant.empty;
      listed = c.self.invariant.listed;
      kept = λ few. c.keep.ensures
          ∙ ap (with_content kind bytes i) (c.self.invariant.kept (omega (arith, few, count)))
          ∙ sym (held_contents kind bytes ps i p)
          ∙ ap (λ (q : FoundPlace). map content_at (set ps i q)) (sym held);
      counted = λ some. (let few = c.self.invariant.counted (let n = ap length c.keep.ensures in let m = held_length kind bytes i c.self.inside.contents.items in omega (arith, some, n, m)) in omega (arith, few, count));
    }
