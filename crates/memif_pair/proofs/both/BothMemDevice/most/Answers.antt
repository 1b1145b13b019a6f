use Rattle.std.proofs.Common.{◌≡◌}
use Rattle.memif.specs.Told.{DeviceTold, figures_at, most_of}
use Rattle.memif_pair.proofs.BothCalls.{asked}
use Rattle.memif_pair.proofs.both.BothMemDevice.most.Goals as goal

pub returns : goal.returns
returns g c = asked g.A.MemDevice.told g.A.MemDevice.clock g.B.MemDevice.told g.B.MemDevice.clock _ _ c.self.view_is c.self.invariant (λ (d : DeviceTold). c.most.result ≡ most_of (figures_at d.fixed c.args.number.0) c.args.op) (c.most.ensures c.self.inside.last)
