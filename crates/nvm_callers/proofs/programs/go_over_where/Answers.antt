use Rattle.std.proofs.Common.{rules}
use Rattle.nvm_callers.proofs.Common.{◌+◌, All, WorkerMayGoOn, MayRun}
use Rattle.nvm_callers.proofs.Rounds.{first_placed, placed_on}
use Rattle.nvm_callers.proofs.programs.go_over_where.Goals as goal

pub go_over-requires-clause-lock : goal.go_over-requires-clause-lock
go_over-requires-clause-lock g c =
    (first_placed (λ k w. WorkerMayGoOn c.args.shared.now c.args.job.now.programs.now (c.args.start + k) w.pass w.made × g.S.Stores.is_of c.args.shared.now.gate × All (MayRun c.args.shared.now.terms.config) c.args.job.now.programs.now)
    c.args.workers.now (search rules) c.requires.ready).1.1

pub go_over-requires-clause-may : goal.go_over-requires-clause-may
go_over-requires-clause-may g c =
    (first_placed (λ k w. WorkerMayGoOn c.args.shared.now c.args.job.now.programs.now (c.args.start + k) w.pass w.made × g.S.Stores.is_of c.args.shared.now.gate × All (MayRun c.args.shared.now.terms.config) c.args.job.now.programs.now)
    c.args.workers.now (search rules) c.requires.ready).1.2

pub returns-then-not-is_empty-clause-ready : goal.returns-then-not-is_empty-clause-ready
returns-then-not-is_empty-clause-ready g c =
    placed_on (λ k w. WorkerMayGoOn c.args.shared.now c.args.job.now.programs.now (c.args.start + k) w.pass w.made) (g.S.Stores.is_of c.args.shared.now.gate) (All (MayRun c.args.shared.now.terms.config) c.args.job.now.programs.now)
    c.args.workers.now c.go_over.new.workers (search rules) c.requires.ready c.go_over.ensures.ready
