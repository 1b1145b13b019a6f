use Rattle.nvm_callers.proofs.Common.{◌+◌, GoesOn, WorkerMayGoOn}
use Rattle.nvm_callers.proofs.Rounds.{ChangedBelow}
use Rattle.nvm_callers.proofs.programs.go_over.Given as goal

abbrev pub invariant-loop-k : goal.invariant-loop-k
invariant-loop-k g l =
    ChangedBelow (λ k old new. WorkerMayGoOn l.shared l.job.programs.now (l.start + k) new.pass new.made × GoesOn g.S.Stores.bytes g.S.Stores.made g.S.Stores.mirrors l.shared l.job.programs.now (l.start + k) old new)
    l.initial.workers l.workers l.k
