use Rattle.nvm_callers.proofs.Common.{◌≡◌, ◌+◌, [], ◌∷◌, ◌++◌, List, ℕ, length, take, ap, subst, sym, refl, arith, ◌∙◌, knows, Deed, Did, Err, take_more, slice_get_read, NotMade}
use Rattle.nvm_callers.proofs.Making.{found_full, found_wait, keeps_more}
use Rattle.nvm_callers.proofs.caller.Caller.make_all.Goals as goal

pub returns-clause-done : goal.returns-clause-done
returns-clause-done g c = λ bytes began same did.
    let end : c.loop-place.place ≡ length c.args.deeds.now = omega arith in
    subst (λ (n : ℕ). Did c.args.shared.now.terms c.args.self.now.number (take n c.args.deeds.now) (knows c.loop-place.pass) bytes began (g.S.Stores.made c.loop-place.stores)) end (c.loop-place.invariant.5 bytes began same did)

pub returns-in-Err-NoRoom-clause-done : goal.returns-in-Err-NoRoom-clause-done
returns-in-Err-NoRoom-clause-done g c = λ bytes began same did.
    let before = c.loop-place.invariant in
    c.in-Err-NoRoom.ensures.left (take c.loop-place.place c.args.deeds.now) bytes began (λ block. before.2 block ∙ same block) (before.5 bytes began same did)

pub returns-in-Err-NoRoom-clause-stops : goal.returns-in-Err-NoRoom-clause-stops
returns-in-Err-NoRoom-clause-stops g c =
    let full = c.in-Err-NoRoom.ensures.full (ap (λ (s : NotMade). Err s) c.in-Err-NoRoom.field-0-is) in
    found_full c.args.shared.now.terms (knows c.make.new.pass) c.args.deeds.now c.loop-place.place c.index-deeds-place.result full.0 full.1
    (slice_get_read c.args.deeds.now _ c.loop-place.place c.index-deeds-place.result refl c.loop-place-test.true c.index-deeds-place.is)

pub returns-in-Err-Memory-clause-done : goal.returns-in-Err-Memory-clause-done
returns-in-Err-Memory-clause-done g c = λ bytes began same did.
    let before = c.loop-place.invariant in
    c.in-Err-Memory.ensures.left (take c.loop-place.place c.args.deeds.now) bytes began (λ block. before.2 block ∙ same block) (before.5 bytes began same did)

pub returns-in-Err-Wait-clause-done : goal.returns-in-Err-Wait-clause-done
returns-in-Err-Wait-clause-done g c = λ bytes began same did.
    let before = c.loop-place.invariant in
    c.in-Err-Wait.ensures.left (take c.loop-place.place c.args.deeds.now) bytes began (λ block. before.2 block ∙ same block) (before.5 bytes began same did)

pub returns-in-Err-Wait-clause-stops : goal.returns-in-Err-Wait-clause-stops
returns-in-Err-Wait-clause-stops g c =
    found_wait c.args.deeds.now c.loop-place.place c.index-deeds-place.result (c.in-Err-Wait.ensures.waits (ap (λ (s : NotMade). Err s) c.in-Err-Wait.field-0-is))
    (slice_get_read c.args.deeds.now _ c.loop-place.place c.index-deeds-place.result refl c.loop-place-test.true c.index-deeds-place.is)

pub loop-place-preserved : goal.loop-place-preserved
loop-place-preserved g c =
    let before = c.loop-place.invariant in
    let is = c.in-Ok.ensures in
    let deeds = c.args.deeds.now in
    let one = c.index-deeds-place.result in
    let more = take_more deeds c.loop-place.place one c.loop-place-test.true in
    let same = subst (λ (d : Deed). take (c.loop-place.place + 1) deeds ≡ take c.loop-place.place deeds ++ d ∷ []) (sym c.index-deeds-place.is) more in (
      is.own,
      keeps_more (knows c.args.pass.now) (knows c.loop-place.pass) (knows c.make.new.pass) before.1 is.keeps,
      λ block. is.bytes block ∙ before.2 block,
      is.mirrors ∙ before.3,
      omega arith,
      λ bytes began same_bytes did.
          subst (λ (ds : List Deed). Did c.args.shared.now.terms c.args.self.now.number ds (knows c.make.new.pass) bytes began (g.S.Stores.made c.make.new.stores)) (sym same)
          (is.done (take c.loop-place.place deeds) bytes began (λ block. before.2 block ∙ same_bytes block) (before.5 bytes began same_bytes did)),
    )
