use Rattle.std.proofs.Common.{◌≡◌, false}
use Rattle.turn_gate.specs.Pass.{knows}
use Rattle.nvm_shared.specs.Driving.{IsDriverOf}
use Rattle.nvm_tests.proofs.shared.rest.Given as goal

abbrev pub invariant-loop : goal.invariant-loop
invariant-loop g l =
    IsDriverOf g.D.MemDevice.told g.D.MemDevice.clock g.C.SyncCalls.told l.shared l.pass l.driver × g.C.NotedCopies.is_of l.shared.gate × (l.shared.terms.tells ≡ false) × ((knows l.pass).parts ≡ (knows l.initial.pass).parts)
