use Rattle.std.specs.Prelude.{Some}
use Rattle.nvm_callers.proofs.Common.{◌≡◌, sym, subst, arith, All-pop, AreSidesOf, AreBelow, HasPlaces, IsFree, IsGathered}
use Rattle.nvm_callers.proofs.DealtSides.{last_came_back, last_has_places, last_is_free, none_came_back}
use Rattle.nvm_callers.proofs.gathering.gather.Goals as goal

pub gather_one-requires-clause-places : goal.gather_one-requires-clause-places
gather_one-requires-clause-places g c =
    let own = c.in-Some.own in
    let last = c.in-Some.ensures.items in
    let has = (All-pop (λ s. HasPlaces s.sides c.args.sides.now) c.loop-back.stores.items c.pop.new.self.items (Some own) last c.loop-back.invariant.2).1 in
    subst (λ l. HasPlaces l c.loop-back.sides) (sym c.into_sides.ensures.sides) (last_has_places c.args.stores.items c.loop-back.stores.items c.pop.new.self.items own c.args.sides.now c.loop-back.sides c.loop-back.invariant.1 last has)

pub gather_one-requires-clause-free : goal.gather_one-requires-clause-free
gather_one-requires-clause-free g c =
    let own = c.in-Some.own in
    subst (λ l. IsFree l c.loop-back.sides) (sym c.into_sides.ensures.sides)
    (last_is_free c.args.stores.items c.loop-back.stores.items c.pop.new.self.items own c.args.sides.now c.loop-back.sides c.loop-back.invariant.1 c.in-Some.ensures.items c.requires.apart)

pub gather_one-requires-clause-below : goal.gather_one-requires-clause-below
gather_one-requires-clause-below g c =
    let own = c.in-Some.own in
    subst (λ l. AreBelow c.args.places l) (sym c.into_sides.ensures.sides)
    (All-pop (λ s. AreBelow c.args.places s.sides) c.loop-back.stores.items c.pop.new.self.items (Some own) c.in-Some.ensures.items c.loop-back.invariant.3).1

pub loop-back-preserved : goal.loop-back-preserved
loop-back-preserved g c =
    let own = c.in-Some.own in
    let last = c.in-Some.ensures.items in
    let is = c.loop-back.invariant in
    let rest = c.loop-back.stores.items in
    let front = c.pop.new.self.items in (
      omega (arith, c.in-Some.ensures.cases, is.0),
      last_came_back c.args.stores.items rest front own c.args.sides.now c.loop-back.sides is.1 last c.gather_one.new.sides
          (subst (λ l. IsGathered l c.loop-back.sides c.gather_one.new.sides) c.into_sides.ensures.sides c.gather_one.ensures.gathered),
      (All-pop (λ s. HasPlaces s.sides c.args.sides.now) rest front (Some own) last is.2).0,
      (All-pop (λ s. AreBelow c.args.places s.sides) rest front (Some own) last is.3).0,
      λ ps are all.
          let was = is.4 ps are all in
          let into = All-pop (λ s. s.mirrors ≡ ps) rest front (Some own) last was.1 in
          (c.gather_one.ensures.own ps (subst (λ qs. AreSidesOf qs c.into_sides.result) into.1 c.into_sides.ensures.own) was.0, into.0),
    )

pub loop-back-init : goal.loop-back-init
loop-back-init g c = (omega arith, none_came_back c.args.stores.items c.args.sides.now, c.requires.places, c.requires.below, λ ps are into. (are, into))
