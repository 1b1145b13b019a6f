use Rattle.memif.specs.Calls.{FreesReady, InOrder, RoomIsLeft}
use Rattle.memif_pair.proofs.BothCalls.{looked}
use Rattle.memif_pair.proofs.both.BothMemDevice.status.Goals as goal

pub returns-clause-order : goal.returns-clause-order
returns-clause-order g c = looked g.A.MemDevice.told g.A.MemDevice.clock g.B.MemDevice.told g.B.MemDevice.clock _ _ c.self.view_is c.self.invariant InOrder c.status.ensures.order

pub returns-clause-ready : goal.returns-clause-ready
returns-clause-ready g c = looked g.A.MemDevice.told g.A.MemDevice.clock g.B.MemDevice.told g.B.MemDevice.clock _ _ c.self.view_is c.self.invariant (λ d clock. FreesReady d clock) c.status.ensures.ready

pub returns-clause-room : goal.returns-clause-room
returns-clause-room g c = looked g.A.MemDevice.told g.A.MemDevice.clock g.B.MemDevice.told g.B.MemDevice.clock _ _ c.self.view_is c.self.invariant (λ d clock. RoomIsLeft d clock) c.status.ensures.room
