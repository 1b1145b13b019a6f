use Rattle.std.proofs.Common.{ℕ, Some, None, false, subst}
use Rattle.memif.specs.Calls.{Accepts}
use Rattle.ea_slots.specs.Whole.{Device, told_in, clock_in}
use Rattle.ea_slots.proofs.device.EaMemDevice.start_read.Goals as goal

pub returns : goal.returns
returns g c =
    let s : Device = record { making = g.O.Origin.making; entry = g.O.Origin.entry; parts = c.self.inside.parts } in
    let t : Device = record { making = g.O.Origin.making; entry = g.O.Origin.entry; parts = c.take_job.new.self } in
    subst (λ (d : Device). Accepts (record { job = record { number = c.args.number.0; mark = None; urgent = false }; length = Some c.args.length }) c.take_job.result (told_in d) (clock_in d) (told_in t) (clock_in t)) c.self.view_is
    (subst (λ (n : ℕ). Accepts (record { job = record { number = c.args.number.0; mark = None; urgent = false }; length = Some n }) c.take_job.result (told_in s) (clock_in s) (told_in t) (clock_in t)) c.from.ensures c.take_job.ensures.accepts)
