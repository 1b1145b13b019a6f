use Rattle.std.specs.Prelude.{take}
use Rattle.nvm_callers.proofs.Common.{◌∷◌, ◌++◌, [], ◌≡◌, ◌+◌, ℕ, List, add-one, sym, ap, subst, ◌∙◌, take-suc, Deed, IsDealt}
use Rattle.nvm_callers.proofs.Moving.{free_at}
use Rattle.nvm_callers.proofs.dealing.deal_one.Goals as goal

pub deal_by-requires-clause-free : goal.deal_by-requires-clause-free
deal_by-requires-clause-free g c = free_at (take c.loop-place.place c.args.deeds.now) c.args.from.now c.loop-place.own c.loop-place.from c.loop-place.invariant.0

pub loop-place-preserved : goal.loop-place-preserved
loop-place-preserved g c =
    let deeds = c.args.deeds.now in
    let place = c.loop-place.place in
    let is = c.loop-place.invariant in
    let more : take (place + 1) deeds ≡ take place deeds ++ c.index-deeds-place.result ∷ [] =
    ap (λ (n : ℕ). take n deeds) (add-one place) ∙ take-suc deeds place c.index-deeds-place.result c.loop-place-test.true ∙ ap (λ (d : Deed). take place deeds ++ d ∷ []) (sym c.index-deeds-place.is) in
    let (dealt, places) = c.deal_by.ensures.dealt (take place deeds) c.args.from.now is.0 in (
      subst (λ (ds : List Deed). IsDealt ds c.args.from.now c.deal_by.new.own c.deal_by.new.from) (sym more) dealt,
      places,
      λ ps are. let was = is.2 ps are in c.deal_by.ensures.own ps was.0 was.1,
    )
