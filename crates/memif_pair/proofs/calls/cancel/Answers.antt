use Rattle.std.proofs.Common.{Bool, sym, subst}
use Rattle.memif.specs.Calls.{Cancels}
use Rattle.memif_pair.specs.Together.{OfPair}
use Rattle.memif_pair.proofs.Canceling.{cancels_first, cancels_second}
use Rattle.memif_pair.proofs.calls.cancel.Goals as goal

pub returns-then-last : goal.returns-then-last
returns-then-last g c =
    let a = g.A.MemDevice.told c.args.first.now in
    let ca = g.A.MemDevice.clock c.args.first.now in
    let b = g.B.MemDevice.told c.args.second.now in
    let cb = g.B.MemDevice.clock c.args.second.now in
    let bnew = g.B.MemDevice.told c.cancel.new.self in
    let cb_new = g.B.MemDevice.clock c.cancel.new.self in
    subst (λ (l : Bool). OfPair Cancels l l a ca b cb a ca bnew cb_new) (sym c.if-last.true) (cancels_second a ca b cb bnew cb_new c.cancel.ensures c.status-first.ensures.order)

pub returns-else-last : goal.returns-else-last
returns-else-last g c =
    let a = g.A.MemDevice.told c.args.first.now in
    let ca = g.A.MemDevice.clock c.args.first.now in
    let b = g.B.MemDevice.told c.args.second.now in
    let cb = g.B.MemDevice.clock c.args.second.now in
    let anew = g.A.MemDevice.told c.cancel-else-last.new.self in
    let ca_new = g.A.MemDevice.clock c.cancel-else-last.new.self in
    subst (λ (l : Bool). OfPair Cancels l l a ca b cb anew ca_new b cb) (sym c.if-last.false) (cancels_first a ca b cb anew ca_new c.cancel-else-last.ensures c.status-second.ensures.order)
