use Rattle.std.proofs.Common.{ℕ, sym, subst}
use Rattle.memif.specs.Calls.{Arms}
use Rattle.memif_pair.specs.Together.{OfPair}
use Rattle.memif_pair.proofs.Arming.{arms_first, arms_second, arms_none}
use Rattle.memif_pair.proofs.calls.arm.Goals as goal

pub returns-then-which-eq0 : goal.returns-then-which-eq0
returns-then-which-eq0 g c last =
    let a = g.A.MemDevice.told c.args.first.now in
    let ca = g.A.MemDevice.clock c.args.first.now in
    let b = g.B.MemDevice.told c.args.second.now in
    let cb = g.B.MemDevice.clock c.args.second.now in
    let anew = g.A.MemDevice.told c.arm.new.self in
    let ca_new = g.A.MemDevice.clock c.arm.new.self in
    subst (λ (n : ℕ). OfPair (Arms n c.args.nth c.args.keep) last last a ca b cb anew ca_new b cb) (sym c.if-which-eq0.true) (arms_first c.args.nth c.args.keep last a ca b cb anew ca_new c.arm.ensures c.status-second.ensures.order)

pub returns-then-which-eq1 : goal.returns-then-which-eq1
returns-then-which-eq1 g c last =
    let a = g.A.MemDevice.told c.args.first.now in
    let ca = g.A.MemDevice.clock c.args.first.now in
    let b = g.B.MemDevice.told c.args.second.now in
    let cb = g.B.MemDevice.clock c.args.second.now in
    let bnew = g.B.MemDevice.told c.arm-then-which-eq1.new.self in
    let cb_new = g.B.MemDevice.clock c.arm-then-which-eq1.new.self in
    subst (λ (n : ℕ). OfPair (Arms n c.args.nth c.args.keep) last last a ca b cb a ca bnew cb_new) (sym c.if-which-eq1.true) (arms_second c.args.nth c.args.keep last a ca b cb bnew cb_new c.arm-then-which-eq1.ensures c.status-first.ensures.order)

pub returns-else-which-eq1 : goal.returns-else-which-eq1
returns-else-which-eq1 g c last =
    arms_none c.args.which c.args.nth c.args.keep last (g.A.MemDevice.told c.args.first.now) (g.A.MemDevice.clock c.args.first.now) (g.B.MemDevice.told c.args.second.now) (g.B.MemDevice.clock c.args.second.now) c.if-which-eq0.false c.if-which-eq1.false c.status-first.ensures.order c.status-second.ensures.order
