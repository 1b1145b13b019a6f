use Rattle.memif_pair.proofs.Asked.{kind_first, kind_second}
use Rattle.memif_pair.proofs.queries.mark_kind.Goals as goal

pub returns-in-Some : goal.returns-in-Some
returns-in-Some g c last course t =
    kind_second (g.A.MemDevice.told c.args.first.now) (g.B.MemDevice.told c.args.second.now) last course c.args.number.0 c.in-Some.kind c.in-Some.ensures

pub returns-in-None : goal.returns-in-None
returns-in-None g c last course t =
    kind_first (g.A.MemDevice.told c.args.first.now) (g.B.MemDevice.told c.args.second.now) last course c.args.number.0 c.mark_kind-in-None.result c.in-None.ensures c.mark_kind-in-None.ensures
