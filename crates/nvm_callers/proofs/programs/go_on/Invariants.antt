use Rattle.nvm_callers.proofs.Common.{◌≡◌, ◌+◌, length, GoesOn, WorkerMayGoOn, AllChanged, AllPlaced}
use Rattle.nvm_callers.proofs.programs.go_on.Given as goal

abbrev pub invariant-loop : goal.invariant-loop
invariant-loop g l =
    (length l.workers ≡ length l.initial.workers) × AllPlaced (λ k w. WorkerMayGoOn l.shared l.job.programs.now (l.start + k) w.pass w.made) l.workers
    × AllChanged (λ k. GoesOn g.S.Stores.bytes g.S.Stores.made g.S.Stores.mirrors l.shared l.job.programs.now (l.start + k)) l.initial.workers l.workers
