use Rattle.memif.specs.Calls.{Cancels}
use Rattle.memif_pair.proofs.BothCalls.{called, kept}
use Rattle.memif_pair.proofs.Started.{up_canceled}
use Rattle.memif_pair.proofs.both.BothMemDevice.cancel.Goals as goal

pub invariant_of-self : goal.invariant_of-self
invariant_of-self g c =
    kept g.A.MemDevice.told g.A.MemDevice.clock g.B.MemDevice.told g.B.MemDevice.clock _ _ c.self.view_is c.self.invariant Cancels c.cancel.new.first c.cancel.new.second c.self.inside.last c.cancel.ensures
    (λ old clock new clock_new cancels up. up_canceled old clock new clock_new cancels up)

pub returns : goal.returns
returns g c = called g.A.MemDevice.told g.A.MemDevice.clock g.B.MemDevice.told g.B.MemDevice.clock _ _ c.self.view_is c.self.invariant Cancels c.cancel.new.first c.cancel.new.second c.self.inside.last c.cancel.ensures
