use Rattle.std.proofs.Common.{Result, sym, subst}
use Rattle.memif.specs.declared.answer.StartFault.{StartFault}
use Rattle.memif.specs.Calls.{StartsUp}
use Rattle.memif_pair.specs.Together.{OfPair}
use Rattle.memif_pair.proofs.StartingUp.{starts_up}
use Rattle.memif_pair.proofs.calls.start.Goals as goal

pub returns : goal.returns
returns g c last last_new =
    let a = g.A.MemDevice.told c.args.first.now in
    let ca = g.A.MemDevice.clock c.args.first.now in
    let b = g.B.MemDevice.told c.args.second.now in
    let cb = g.B.MemDevice.clock c.args.second.now in
    let anew = g.A.MemDevice.told c.start-one.new.self in
    let ca_new = g.A.MemDevice.clock c.start-one.new.self in
    let bnew = g.B.MemDevice.told c.start-two.new.self in
    let cb_new = g.B.MemDevice.clock c.start-two.new.self in
    subst (λ (r : Result (Unit {0}) StartFault). OfPair (StartsUp r) last last_new a ca b cb anew ca_new bnew cb_new) (sym c.answer_both.ensures)
    (λ course t. starts_up c.start-one.result c.start-two.result last last_new a ca b cb anew ca_new bnew cb_new course c.start-one.ensures c.start-two.ensures c.status-first.ensures.order c.status-second.ensures.order t)
