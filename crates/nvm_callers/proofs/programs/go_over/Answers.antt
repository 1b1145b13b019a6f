use Rattle.nvm_callers.proofs.Common.{◌+◌, arith, GoesOn, WorkerMayGoOn}
use Rattle.nvm_callers.proofs.Rounds.{none_below, one_below}
use Rattle.nvm_callers.proofs.programs.go_over.Goals as goal

pub loop-k-init : goal.loop-k-init
loop-k-init g c =
    none_below (λ k old new. WorkerMayGoOn c.args.shared.now c.args.job.now.programs.now (c.args.start + k) new.pass new.made × GoesOn g.S.Stores.bytes g.S.Stores.made g.S.Stores.mirrors c.args.shared.now c.args.job.now.programs.now (c.args.start + k) old new)
    c.args.workers.now

pub loop-k-preserved : goal.loop-k-preserved
loop-k-preserved g c =
    one_below (λ k old new. WorkerMayGoOn c.args.shared.now c.args.job.now.programs.now (c.args.start + k) new.pass new.made × GoesOn g.S.Stores.bytes g.S.Stores.made g.S.Stores.mirrors c.args.shared.now c.args.job.now.programs.now (c.args.start + k) old new)
    c.args.workers.now c.loop-k.workers c.loop-k.k _ _ (omega arith) c.loop-k.invariant (c.make_one.ensures.ready, c.make_one.ensures.on)

pub returns-clause-ready : goal.returns-clause-ready
returns-clause-ready g c = λ place d low. (c.loop-k.invariant.2 place d (omega (arith, low))).0

pub returns-clause-on : goal.returns-clause-on
returns-clause-on g c = λ place d low. (c.loop-k.invariant.2 place d (omega (arith, low))).1
