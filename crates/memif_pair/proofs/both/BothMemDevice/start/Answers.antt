use Rattle.memif.specs.Calls.{StartsUp}
use Rattle.memif_pair.proofs.BothCalls.{called, kept}
use Rattle.memif_pair.proofs.Started.{up_started}
use Rattle.memif_pair.proofs.both.BothMemDevice.start.Goals as goal

pub invariant_of-self : goal.invariant_of-self
invariant_of-self g c =
    kept g.A.MemDevice.told g.A.MemDevice.clock g.B.MemDevice.told g.B.MemDevice.clock _ _ c.self.view_is c.self.invariant (StartsUp c.start.result) c.start.new.first c.start.new.second c.self.inside.last (c.start.ensures c.self.inside.last c.self.inside.last)
    (λ old clock new clock_new starts up. up_started c.start.result old clock new clock_new starts)

pub returns : goal.returns
returns g c = called g.A.MemDevice.told g.A.MemDevice.clock g.B.MemDevice.told g.B.MemDevice.clock _ _ c.self.view_is c.self.invariant (StartsUp c.start.result) c.start.new.first c.start.new.second c.self.inside.last (c.start.ensures c.self.inside.last c.self.inside.last)
