use Rattle.std.proofs.Common.{subst}
use Rattle.memif.specs.Calls.{FreesReady, RoomIsLeft}
use Rattle.fee_laws.specs.fee_told.Device.{Device, clock_of, told_of}
use Rattle.fee_core.proofs.device.FeeMemDevice.status.Goals as goal

pub returns-clause-ready : goal.returns-clause-ready
returns-clause-ready g c = subst (λ (x : Device). FreesReady (told_of x) (clock_of x)) c.self.view_is c.status.ensures.ready

pub returns-clause-room : goal.returns-clause-room
returns-clause-room g c = subst (λ (x : Device). RoomIsLeft (told_of x) (clock_of x)) c.self.view_is c.status.ensures.room
