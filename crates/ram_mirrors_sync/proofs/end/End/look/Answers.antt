use Rattle.std.proofs.Common.{sym, ◌∙◌, subst}
use Rattle.ram_mirrors.specs.Ends.{IsTakerOf}
use Rattle.ram_mirrors_sync.specs.Ends.{EndValue, PairValue, LooksEnd, IsEndOf}
use Rattle.ram_mirrors_sync.proofs.Copying.{Looks, looks_by, looks_end, content_on, shown_on}
use Rattle.ram_mirrors_sync.proofs.end.End.look.Goals as goal

pub returns-clause-looked : goal.returns-clause-looked
returns-clause-looked g c =
    let t = c.refresh.new.taker in
    let old : EndValue g.row.N.Denot = record { up = c.self.inside.up; down = c.self.inside.down; first = c.self.inside.first.items } in
    let own : IsTakerOf c.pair.inside.up c.self.inside.up =
    subst (λ (p : PairValue). IsTakerOf p.up c.self.inside.up) (sym c.pair.view_is) (subst (λ (e : EndValue g.row.N.Denot). IsTakerOf c.args.pair.now.up e.up) (sym c.self.view_is) c.requires.end.up) in
    let looks : Looks c.pair.inside.up c.self.inside.up t = looks_by c.pair.inside.up c.self.inside.up t c.refresh.result own c.refresh.ensures.own c.refresh.ensures.none c.refresh.ensures.some c.refresh.ensures.shows in
    subst (λ (e : EndValue g.row.N.Denot). LooksEnd e c.shown.result (record { up = t; down = c.self.inside.down; first = c.self.inside.first.items })) c.self.view_is
    (looks_end c.pair.inside.up old t c.shown.result looks c.shown.ensures)

pub returns-clause-end : goal.returns-clause-end
returns-clause-end g c =
    let t = c.refresh.new.taker in
    let was : IsEndOf c.args.pair.now (record { up = c.self.inside.up; down = c.self.inside.down; first = c.self.inside.first.items }) =
    subst (λ (e : EndValue g.row.N.Denot). IsEndOf c.args.pair.now e) (sym c.self.view_is) c.requires.end in
    let own : IsTakerOf c.args.pair.now.up t = subst (λ (p : PairValue). IsTakerOf p.up t) c.pair.view_is c.refresh.ensures.own in
    let size = was.up.1 ∙ sym own.1 in
    record {
      up = own;
      down = was.down;
      same = was.same ∙ size;
      first = was.first ∙ size;
      content = content_on c.self.inside.up t c.refresh.result was.content size c.refresh.ensures.none c.refresh.ensures.some;
      shown = shown_on c.self.inside.up t c.refresh.result was.shown c.refresh.ensures.none c.refresh.ensures.some;
    }
