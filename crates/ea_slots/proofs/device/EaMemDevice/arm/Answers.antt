use Rattle.std.proofs.Common.{subst}
use Rattle.memif.specs.Calls.{Arms}
use Rattle.ea_slots.specs.Whole.{Device, told_in, clock_in}
use Rattle.ea_slots.proofs.Telling.{arms}
use Rattle.ea_slots.proofs.device.EaMemDevice.arm.Goals as goal

pub invariant_of-self : goal.invariant_of-self
invariant_of-self g c = (arms g.O.Origin.making g.O.Origin.entry c.args.which c.args.nth c.args.keep c.self.inside.parts c.arm.new.self c.self.invariant c.arm.ensures.plan c.arm.ensures.none).0

pub returns : goal.returns
returns g c =
    let t : Device = record { making = g.O.Origin.making; entry = g.O.Origin.entry; parts = c.arm.new.self } in
    subst (λ (d : Device). Arms c.args.which c.args.nth c.args.keep (told_in d) (clock_in d) (told_in t) (clock_in t)) c.self.view_is
    (arms g.O.Origin.making g.O.Origin.entry c.args.which c.args.nth c.args.keep c.self.inside.parts c.arm.new.self c.self.invariant c.arm.ensures.plan c.arm.ensures.none).1
