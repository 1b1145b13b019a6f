use Rattle.std.proofs.Common.{subst}
use Rattle.ram_mirrors_sync.specs.Ends.{EndValue}
use Rattle.ram_mirrors_sync.specs.Blocks.{SideValue, IsClosed}
use Rattle.ram_mirrors_sync.proofs.closing.close_block.Goals as goal

pub returns : goal.returns
returns g c =
    subst (λ (e : EndValue g.row.N.Denot). IsClosed e c.args.side) c.end.view_is
    (subst (λ (s : SideValue g.row.N.Denot). IsClosed (record { up = c.end.inside.up; down = c.end.inside.down; first = c.end.inside.first.items }) s) c.side.view_is
    (record { got = c.close.ensures.got; shown = c.close.ensures.shown; read = c.close-2.ensures.got }))
