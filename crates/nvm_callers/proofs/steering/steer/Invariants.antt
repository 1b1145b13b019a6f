use Rattle.nvm_callers.proofs.Common.{◌≡◌, ◌+◌, All, length, knows, IsDriverOf, GoesOn, MayRun, WorkerMayGoOn, AllChanged, AllPlaced, HasSteered}
use Rattle.nvm_callers.proofs.steering.steer.Given as goal

abbrev pub invariant-loop : goal.invariant-loop
invariant-loop g l =
    IsDriverOf g.D.MemDevice.told g.D.MemDevice.clock g.C.SyncCalls.told l.shared l.pass l.driver
    × HasSteered g.D.MemDevice.told g.D.MemDevice.clock g.C.SyncCalls.told g.C.SyncCalls.is_store g.C.SyncCalls.looked g.C.SyncCalls.over g.C.NotedCopies.stands l.shared.terms
    (knows l.initial.pass) (knows l.pass) l.initial.driver l.driver
    × (length l.workers ≡ length l.initial.workers)
    × AllPlaced (λ k w. WorkerMayGoOn l.shared l.job.programs.now (l.start + k) w.pass w.made × g.S.Stores.is_of l.shared.gate × All (MayRun l.shared.terms.config) l.job.programs.now) l.workers
    × AllChanged (λ k. GoesOn g.S.Stores.bytes g.S.Stores.made g.S.Stores.mirrors l.shared l.job.programs.now (l.start + k)) l.initial.workers l.workers
