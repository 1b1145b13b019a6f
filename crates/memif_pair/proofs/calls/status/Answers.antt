use Rattle.std.proofs.Common.{◌∙◌}
use Rattle.memif_pair.specs.Together.{status_both}
use Rattle.memif_pair.proofs.Standing.{status_is}
use Rattle.memif_pair.proofs.Together.{order_both}
use Rattle.memif_pair.proofs.Room.{frees_both, room_both}
use Rattle.memif_pair.proofs.calls.status.Goals as goal

pub returns-clause-status : goal.returns-clause-status
returns-clause-status g c last course t =
    c.status_both.ensures ∙ ((λ i. status_both (c.status-one.ensures.status i) (c.status-two.ensures.status i)) ∙ status_is (g.A.MemDevice.told c.args.first.now) (g.B.MemDevice.told c.args.second.now) last course t)

pub returns-clause-order : goal.returns-clause-order
returns-clause-order g c last course t =
    order_both (g.A.MemDevice.told c.args.first.now) (g.A.MemDevice.clock c.args.first.now) (g.B.MemDevice.told c.args.second.now) (g.B.MemDevice.clock c.args.second.now) last course t c.status-one.ensures.order c.status-two.ensures.order

pub returns-clause-ready : goal.returns-clause-ready
returns-clause-ready g c last course t =
    frees_both (g.A.MemDevice.told c.args.first.now) (g.A.MemDevice.clock c.args.first.now) (g.B.MemDevice.told c.args.second.now) (g.B.MemDevice.clock c.args.second.now) last course t c.status-one.ensures.ready

pub returns-clause-room : goal.returns-clause-room
returns-clause-room g c last course t =
    room_both (g.A.MemDevice.told c.args.first.now) (g.A.MemDevice.clock c.args.first.now) (g.B.MemDevice.told c.args.second.now) (g.B.MemDevice.clock c.args.second.now) last course t c.status-one.ensures.room c.status-two.ensures.order
