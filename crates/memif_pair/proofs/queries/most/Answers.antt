use Rattle.std.proofs.Common.{sym, ◌∙◌}
use Rattle.memif_pair.proofs.Asked.{first_configured, most_on_first, most_on_second}
use Rattle.memif_pair.proofs.queries.most.Goals as goal

pub most-requires-else-is_some : goal.most-requires-else-is_some
most-requires-else-is_some g c =
    first_configured (g.A.MemDevice.told c.args.first.now) (g.B.MemDevice.told c.args.second.now) c.args.number.0
    (sym c.mark_kind.ensures.configured ∙ (sym c.is_some.ensures ∙ c.if-is_some.false)) c.requires

pub returns-then-is_some : goal.returns-then-is_some
returns-then-is_some g c last course t =
    c.most.ensures
    ∙ most_on_second (g.A.MemDevice.told c.args.first.now) (g.B.MemDevice.told c.args.second.now) c.args.number.0 c.args.op
    (sym c.mark_kind.ensures.configured ∙ (sym c.is_some.ensures ∙ c.if-is_some.true))

pub returns-else-is_some : goal.returns-else-is_some
returns-else-is_some g c last course t =
    c.most-else-is_some.ensures
    ∙ most_on_first (g.A.MemDevice.told c.args.first.now) (g.B.MemDevice.told c.args.second.now) c.args.number.0 c.args.op
    (sym c.mark_kind.ensures.configured ∙ (sym c.is_some.ensures ∙ c.if-is_some.false))
