use Rattle.std.proofs.Common.{None, Some, false}
use Rattle.memif.specs.Calls.{Accepts, Wish}
use Rattle.memif_pair.proofs.BothCalls.{called, kept}
use Rattle.memif_pair.proofs.Started.{up_accepted}
use Rattle.memif_pair.proofs.both.BothMemDevice.start_read.Goals as goal

pub invariant_of-self : goal.invariant_of-self
invariant_of-self g c =
    let w : Wish = record { job = record { number = c.args.number.0; mark = None; urgent = false }; length = Some c.args.length } in
    kept g.A.MemDevice.told g.A.MemDevice.clock g.B.MemDevice.told g.B.MemDevice.clock _ _ c.self.view_is c.self.invariant (Accepts w c.start_read.result) c.start_read.new.first c.start_read.new.second c.start_read.new.last c.start_read.ensures
    (λ old clock new clock_new accepts up. up_accepted w c.start_read.result old clock new clock_new accepts up)

pub returns : goal.returns
returns g c =
    let w : Wish = record { job = record { number = c.args.number.0; mark = None; urgent = false }; length = Some c.args.length } in
    called g.A.MemDevice.told g.A.MemDevice.clock g.B.MemDevice.told g.B.MemDevice.clock _ _ c.self.view_is c.self.invariant (Accepts w c.start_read.result) c.start_read.new.first c.start_read.new.second c.start_read.new.last c.start_read.ensures
