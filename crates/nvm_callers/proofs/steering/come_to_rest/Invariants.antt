use Rattle.nvm_callers.proofs.Common.{knows, IsDriverOf, HasSteered}
use Rattle.nvm_callers.proofs.steering.come_to_rest.Given as goal

abbrev pub invariant-loop : goal.invariant-loop
invariant-loop g l =
    IsDriverOf g.D.MemDevice.told g.D.MemDevice.clock g.C.SyncCalls.told l.shared l.pass l.driver
    × HasSteered g.D.MemDevice.told g.D.MemDevice.clock g.C.SyncCalls.told g.C.SyncCalls.is_store g.C.SyncCalls.looked g.C.SyncCalls.over g.C.NotedCopies.stands l.shared.terms
    (knows l.initial.pass) (knows l.pass) l.initial.driver l.driver
