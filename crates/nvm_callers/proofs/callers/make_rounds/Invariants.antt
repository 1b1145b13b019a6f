use Rattle.nvm_callers.proofs.Common.{◌≡◌, length, knows, IsDriverOf, GoesOn, WorkerMayGoOn, AllChanged, AllPlaced, HasSteered}
use Rattle.nvm_callers.proofs.callers.make_rounds.Given as goal

abbrev pub invariant-loop : goal.invariant-loop
invariant-loop g l =
    IsDriverOf g.D.MemDevice.told g.D.MemDevice.clock g.C.SyncCalls.told l.shared l.steering.pass l.steering.driver
    × HasSteered g.D.MemDevice.told g.D.MemDevice.clock g.C.SyncCalls.told g.C.SyncCalls.is_store g.C.SyncCalls.looked g.C.SyncCalls.over g.C.NotedCopies.stands l.shared.terms
    (knows l.initial.steering.pass) (knows l.steering.pass) l.initial.steering.driver l.steering.driver
    × (length l.workers ≡ length l.initial.workers) × AllPlaced (λ place w. WorkerMayGoOn l.shared l.job.programs.now place w.pass w.made) l.workers
    × AllChanged (GoesOn g.S.Stores.bytes g.S.Stores.made g.S.Stores.mirrors l.shared l.job.programs.now) l.initial.workers l.workers
