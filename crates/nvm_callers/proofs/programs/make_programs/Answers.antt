use Rattle.nvm_callers.proofs.Common.{◌+◌, All, arith, WorkerMayGoOn, MayRun}
use Rattle.nvm_callers.proofs.Rounds.{first_placed}
use Rattle.nvm_callers.proofs.programs.make_programs.Goals as goal

pub go_on-requires-clause-lock : goal.go_on-requires-clause-lock
go_on-requires-clause-lock g c =
    (first_placed (λ k w. WorkerMayGoOn c.args.shared.now c.args.job.now.programs.now (c.args.start + k) w.pass w.made × g.S.Stores.is_of c.args.shared.now.gate × All (MayRun c.args.shared.now.terms.config) c.args.job.now.programs.now)
    c.args.workers.now c.requires.some c.requires.ready).1.1

pub go_on-requires-clause-may : goal.go_on-requires-clause-may
go_on-requires-clause-may g c =
    (first_placed (λ k w. WorkerMayGoOn c.args.shared.now c.args.job.now.programs.now (c.args.start + k) w.pass w.made × g.S.Stores.is_of c.args.shared.now.gate × All (MayRun c.args.shared.now.terms.config) c.args.job.now.programs.now)
    c.args.workers.now c.requires.some c.requires.ready).1.2

pub go_on-requires-clause-ready : goal.go_on-requires-clause-ready
go_on-requires-clause-ready g c = λ place d low. (c.requires.ready place d low).0

pub returns : goal.returns
returns g c = λ place d low. (c.go_on.ensures.ready place d (omega (arith, low)), c.go_on.ensures.on place d low)
