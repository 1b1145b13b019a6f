use Rattle.std.specs.Prelude.{length}
use Rattle.std.proofs.Common.{Some}
use Rattle.nv_base.specs.declared.mark.Mark.TheVariants as mark
use Rattle.memif.specs.Calls.{Accepts, Wish}
use Rattle.memif_pair.proofs.BothCalls.{called, kept}
use Rattle.memif_pair.proofs.Started.{up_accepted}
use Rattle.memif_pair.proofs.both.BothMemDevice.start_write.Goals as goal

pub invariant_of-self : goal.invariant_of-self
invariant_of-self g c =
    let w : Wish = record { job = record { number = c.args.number.0; mark = Some (mark.Content c.args.content.now); urgent = c.args.urgent }; length = Some (length c.args.content.now) } in
    kept g.A.MemDevice.told g.A.MemDevice.clock g.B.MemDevice.told g.B.MemDevice.clock _ _ c.self.view_is c.self.invariant (Accepts w c.start_write.result) c.start_write.new.first c.start_write.new.second c.start_write.new.last c.start_write.ensures
    (λ old clock new clock_new accepts up. up_accepted w c.start_write.result old clock new clock_new accepts up)

pub returns : goal.returns
returns g c =
    let w : Wish = record { job = record { number = c.args.number.0; mark = Some (mark.Content c.args.content.now); urgent = c.args.urgent }; length = Some (length c.args.content.now) } in
    called g.A.MemDevice.told g.A.MemDevice.clock g.B.MemDevice.told g.B.MemDevice.clock _ _ c.self.view_is c.self.invariant (Accepts w c.start_write.result) c.start_write.new.first c.start_write.new.second c.start_write.new.last c.start_write.ensures
