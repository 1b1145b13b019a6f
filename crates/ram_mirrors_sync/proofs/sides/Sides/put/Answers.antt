use Rattle.std.proofs.Common.{◌≡◌, ℕ, sym, ap, ◌∙◌, subst}
use Rattle.ram_mirrors_sync.specs.Blocks.{SideValue, SideList, AreSidesOf, IsSideIn}
use Rattle.ram_mirrors_sync.proofs.Belonging.{set_holds}
use Rattle.ram_mirrors_sync.proofs.sides.Sides.put.Goals as goal

pub returns-clause-own : goal.returns-clause-own
returns-clause-own g c = λ ps are is.
    set_holds (λ (id : ℕ) (s : SideValue g.row.N.Denot). (s.block ≡ id) × IsSideIn ps s) c.self.inside.sides.items c.from-place.result c.args.side
    (sym (c.from-place.ensures ∙ ap (λ (s : SideValue g.row.N.Denot). s.block) c.side.view_is), is)
    (subst (λ (l : SideList g.row.N.Denot). AreSidesOf ps l) (sym c.self.view_is) are)
