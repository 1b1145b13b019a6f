use Rattle.std.proofs.Common.{◌≡◌}
use Rattle.memif.specs.Told.{DeviceTold, ops_of}
use Rattle.memif_pair.proofs.BothCalls.{asked}
use Rattle.memif_pair.proofs.both.BothMemDevice.ops.Goals as goal

pub returns : goal.returns
returns g c = asked g.A.MemDevice.told g.A.MemDevice.clock g.B.MemDevice.told g.B.MemDevice.clock _ _ c.self.view_is c.self.invariant (λ (d : DeviceTold). c.ops.result ≡ ops_of d) (c.ops.ensures c.self.inside.last)
