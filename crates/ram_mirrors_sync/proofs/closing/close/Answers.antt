use Rattle.std.specs.Prelude.{IfSome}
use Rattle.std.proofs.Common.{◌≤◌, Option, sym, ap, subst, refl, ◌∙◌, arith}
use Rattle.ram_mirrors_sync.specs.Ends.{PairValue, EndValue}
use Rattle.ram_mirrors_sync.specs.Blocks.{Pairs, EndList, SideList, SideValue, pair_at, side_at, HasEnd, IsSideBy, AreEndsOf, AreSidesOf, AreClosed}
use Rattle.ram_mirrors_sync.proofs.Ending.{IsClosedAt, one_closed, all_closed, side_here}
use Rattle.ram_mirrors_sync.proofs.closing.close.Goals as goal

pub close_one-requires-clause-end : goal.close_one-requires-clause-end
close_one-requires-clause-end g c =
    let i = c.loop-place.place in
    subst (λ (o : Option PairValue). HasEnd o c.taken-end.result) (sym (c.taken-pair.ensures.taken ∙ c.loop-place.invariant.pairs i (omega arith)))
    (subst (λ (q : Option (EndValue g.row.N.Denot)). HasEnd (pair_at c.mirrors.inside.pairs.items i) q) (sym (c.taken-end.ensures.taken ∙ c.loop-place.invariant.ends i (omega arith)))
    (subst (λ (l : Pairs). AreEndsOf l c.ends.inside.ends.items) (sym c.mirrors.view_is) (subst (λ (l : EndList g.row.N.Denot). AreEndsOf c.args.mirrors l) (sym c.ends.view_is) c.requires.ends) i))

pub close_one-requires-clause-side : goal.close_one-requires-clause-side
close_one-requires-clause-side g c =
    let i = c.loop-place.place in
    subst (λ (o : Option PairValue). IfSome c.taken-side.result (λ s. IsSideBy o s)) (sym (c.taken-pair.ensures.taken ∙ c.loop-place.invariant.pairs i (omega arith)))
    (subst (λ (r : Option (SideValue g.row.N.Denot)). IfSome r (λ s. IsSideBy (pair_at c.mirrors.inside.pairs.items i) s)) (sym (c.taken-side.ensures.taken ∙ c.loop-place.invariant.sides i (omega arith)))
    (side_here c.mirrors.inside.pairs.items i (side_at c.sides.inside.sides.items i)
    (subst (λ (l : Pairs). AreSidesOf l c.sides.inside.sides.items) (sym c.mirrors.view_is) (subst (λ (l : SideList g.row.N.Denot). AreSidesOf c.args.mirrors l) (sym c.sides.view_is) c.requires.sides) i)))

pub loop-place-preserved : goal.loop-place-preserved
loop-place-preserved g c =
    let i = c.loop-place.place in
    one_closed i _ c.mirrors.inside.pairs.items c.loop-place.pairs.items _ c.ends.inside.ends.items c.loop-place.ends.items _ c.sides.inside.sides.items c.loop-place.sides.items _
    refl c.loop-place.invariant c.taken-pair.ensures.left c.taken-end.ensures.left c.taken-side.ensures.left
    (subst (λ (q : Option (EndValue g.row.N.Denot)). IsClosedAt q (side_at c.sides.inside.sides.items i)) (c.taken-end.ensures.taken ∙ c.loop-place.invariant.ends i (omega arith))
    (subst (λ (r : Option (SideValue g.row.N.Denot)). IsClosedAt c.taken-end.result r) (c.taken-side.ensures.taken ∙ c.loop-place.invariant.sides i (omega arith)) c.close_one.ensures))

pub returns : goal.returns
returns g c =
    subst (λ (l : EndList g.row.N.Denot). AreClosed l c.args.sides) c.ends.view_is
    (subst (λ (l : SideList g.row.N.Denot). AreClosed c.ends.inside.ends.items l) c.sides.view_is
    (all_closed c.loop-place.place c.mirrors.inside.pairs.items c.loop-place.pairs.items c.ends.inside.ends.items c.loop-place.ends.items c.sides.inside.sides.items c.loop-place.sides.items
    (omega (arith, c.len-place-end.ensures, c.loop-place-test.false, c.loop-place.auto.place-end, c.loop-place.invariant.count))
    (subst (λ (l : Pairs). AreEndsOf l c.ends.inside.ends.items) (sym c.mirrors.view_is) (subst (λ (l : EndList g.row.N.Denot). AreEndsOf c.args.mirrors l) (sym c.ends.view_is) c.requires.ends))
    c.loop-place.invariant))
