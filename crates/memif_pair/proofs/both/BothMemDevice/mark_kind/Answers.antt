use Rattle.memif.specs.Told.{DeviceTold}
use Rattle.memif.specs.Calls.{IsKind}
use Rattle.memif_pair.proofs.BothCalls.{asked}
use Rattle.memif_pair.proofs.both.BothMemDevice.mark_kind.Goals as goal

pub returns : goal.returns
returns g c = asked g.A.MemDevice.told g.A.MemDevice.clock g.B.MemDevice.told g.B.MemDevice.clock _ _ c.self.view_is c.self.invariant (λ (d : DeviceTold). IsKind d c.args.number.0 c.mark_kind.result) (c.mark_kind.ensures c.self.inside.last)
