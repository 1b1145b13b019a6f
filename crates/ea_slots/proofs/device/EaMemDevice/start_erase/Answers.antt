use Rattle.std.proofs.Common.{Some, None, false, subst}
use Rattle.nv_base.specs.declared.mark.Mark.TheVariants as mark
use Rattle.memif.specs.Calls.{Accepts}
use Rattle.ea_slots.specs.Whole.{Device, told_in, clock_in}
use Rattle.ea_slots.proofs.device.EaMemDevice.start_erase.Goals as goal

pub returns : goal.returns
returns g c =
    let t : Device = record { making = g.O.Origin.making; entry = g.O.Origin.entry; parts = c.take_job.new.self } in
    subst (λ (d : Device). Accepts (record { job = record { number = c.args.number.0; mark = Some mark.Erased; urgent = false }; length = None }) c.take_job.result (told_in d) (clock_in d) (told_in t) (clock_in t)) c.self.view_is c.take_job.ensures.accepts
