use Rattle.std.proofs.Common.{◌≡◌}
use Rattle.memif.specs.Told.{DeviceTold}
use Rattle.memif_pair.proofs.BothCalls.{asked}
use Rattle.memif_pair.proofs.both.BothMemDevice.left.Goals as goal

pub returns : goal.returns
returns g c = asked g.A.MemDevice.told g.A.MemDevice.clock g.B.MemDevice.told g.B.MemDevice.clock _ _ c.self.view_is c.self.invariant (λ (d : DeviceTold). c.left.result ≡ d.left) (c.left.ensures c.self.inside.last)
