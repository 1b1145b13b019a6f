use Rattle.std.proofs.Common.{◌≡◌, ◌≢◌, ℕ, List, All, MatchOption, sym, ◌∙◌, subst, rules}
use Rattle.std.proofs.lemmas.List.Sorted.{answers_always}
use Rattle.nv_base.specs.declared.instance.DeviceNumber.{DeviceNumber}
use Rattle.nv_base.specs.Lengths.{AreLengths, IsPlace}
use Rattle.nv_base.proofs.Places.{searched, found_place, place_is}
use Rattle.nv_base.proofs.lengths.Lengths.search.Goals as goal

pub returns : goal.returns
returns c =
    let facts = c.binary_search_by_key.ensures in
    let same : c.deref.result.now ≡ c.args.self.now = c.deref.ensures.value ∙ c.self.view_is in
    let all : AreLengths 0 c.args.self.now = subst (AreLengths 0) c.self.view_is c.self.invariant in
    let by_key = facts.position (λ n. n.0.0) (answers_always _ _ _ (λ f a r g called. search rules)) in
    let number = c.args.number.0 in
    let P : List (DeviceNumber × ℕ) → Type 0 = λ ns. MatchOption c.ok.result (All (λ n. n.0.0 ≢ number) ns) (IsPlace ns number) in
    let found : P c.args.self.now = subst P same (rw c.ok.ensures.value (searched 0 c.deref.result.now (subst (AreLengths 0) (sym same) all) number _ facts.bound by_key)) in
    let value = found_place 0 c.args.self.now number c.ok.result all found in
    record { value = value; place = found; only = λ i at. value ∙ place_is 0 c.args.self.now number i all at }
