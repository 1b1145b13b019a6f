use Rattle.std.proofs.Common.{arith}
use Rattle.nv_desk.proofs.Lengths.{room_within}
use Rattle.nv_desk.proofs.desk.Desk.ram.Goals as goal

pub returns-clause-within : goal.returns-clause-within
returns-clause-within c =
    let d = c.self.inside in
    let room = rw c.self.invariant.agrees.rooms at c.ram.ensures.room in
    let within = room_within d.config c.args.block in
    rw (← c.self.view_is) (omega (arith, room, within))
