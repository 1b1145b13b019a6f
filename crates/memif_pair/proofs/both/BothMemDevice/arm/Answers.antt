use Rattle.memif.specs.Calls.{Arms}
use Rattle.memif_pair.proofs.BothCalls.{called, kept}
use Rattle.memif_pair.proofs.Started.{up_armed}
use Rattle.memif_pair.proofs.both.BothMemDevice.arm.Goals as goal

pub invariant_of-self : goal.invariant_of-self
invariant_of-self g c =
    kept g.A.MemDevice.told g.A.MemDevice.clock g.B.MemDevice.told g.B.MemDevice.clock _ _ c.self.view_is c.self.invariant (Arms c.args.which c.args.nth c.args.keep) c.arm.new.first c.arm.new.second c.self.inside.last (c.arm.ensures c.self.inside.last)
    (λ old clock new clock_new arms up. up_armed c.args.which c.args.nth c.args.keep old clock new clock_new arms up)

pub returns : goal.returns
returns g c = called g.A.MemDevice.told g.A.MemDevice.clock g.B.MemDevice.told g.B.MemDevice.clock _ _ c.self.view_is c.self.invariant (Arms c.args.which c.args.nth c.args.keep) c.arm.new.first c.arm.new.second c.self.inside.last (c.arm.ensures c.self.inside.last)
