use Rattle.nvm_callers.proofs.Common.{map, ◌≡◌, ◌+◌, ◌++◌, ◌∷◌, [], ℕ, List, length, add-one, sym, ap, subst, length-append, ◌∙◌, take-suc, Deed, Program, AllDealt, IsDealt, All-push, All-same}
use Rattle.std.specs.Prelude.{take}
use Rattle.nvm_callers.proofs.DealtSides.{dealt_one_more, map_push}
use Rattle.nvm_callers.proofs.dealing.deal.Goals as goal

pub of-requires : goal.of-requires
of-requires g c = (c.deal_one.ensures.own _ c.loop-place.invariant.0).1

pub returns-in_err-push-clause-own : goal.returns-in_err-push-clause-own
returns-in_err-push-clause-own g c = (c.deal_one.ensures.own _ c.loop-place.invariant.0).0

pub loop-place-preserved : goal.loop-place-preserved
loop-place-preserved g c =
    let programs = c.args.programs.now in
    let place = c.loop-place.place in
    let p = c.index-programs-place.result in
    let is = c.loop-place.invariant in
    let was = c.loop-place.dealt.items in
    let pushed = c.in_ok-push.ensures.items in
    let more : take (place + 1) programs ≡ take place programs ++ p ∷ [] =
    ap (λ (n : ℕ). take n programs) (add-one place) ∙ take-suc programs place p c.loop-place-test.true ∙ ap (λ (d : Program). take place programs ++ d ∷ []) (sym c.index-programs-place.is) in
    let owns = ap (map (λ s. s.sides)) pushed ∙ map_push (λ s. s.sides) was c.of.result ∙ ap (λ s. map (λ s. s.sides) was ++ s.sides ∷ []) c.of.ensures in
    let one = subst (λ (x : Program). IsDealt x.deeds c.loop-place.sides c.deal_one.new.own c.deal_one.new.from) (sym c.index-programs-place.is)
    (subst (λ (ds : List Deed). IsDealt ds c.loop-place.sides c.deal_one.new.own c.deal_one.new.from) c.as_slice.ensures.items c.deal_one.ensures.dealt) in
    let all = dealt_one_more (take place programs) p (map (λ s. s.sides) was) c.deal_one.new.own c.args.sides.now c.loop-place.sides c.deal_one.new.from is.2 one in (
      (c.deal_one.ensures.own _ is.0).0,
      ap length pushed ∙ length-append was (c.of.result ∷ []) ∙ ap (λ (n : ℕ). n + 1) is.1,
      subst (λ (ps : List Program). AllDealt ps c.args.sides.now (map (λ s. s.sides) c.push.new.self.items) c.deal_one.new.from) (sym more)
          (subst (λ os. AllDealt (take place programs ++ p ∷ []) c.args.sides.now os c.deal_one.new.from) (sym owns) all),
      All-same (λ s. s.mirrors ≡ c.args.mirrors.now) c.push.new.self.items (was ++ c.of.result ∷ []) pushed (All-push (λ s. s.mirrors ≡ c.args.mirrors.now) was c.of.result is.3 (ap (λ s. s.mirrors) c.of.ensures)),
    )
