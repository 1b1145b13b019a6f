use Rattle.std.proofs.Common.{arith}
use Rattle.fee_core.proofs.Leaving.{blank_copies}
use Rattle.fee_core.proofs.room.whole_switch.Goals as goal

pub returns-in-None : goal.returns-in-None
returns-in-None c =
    let b = c.args.banks.now in
    let none = blank_copies b c.requires.active c.in-None.ensures c.requires.idle in
    let sectors = c.bank_sectors-sectors.ensures in
    let from = c.from.ensures in
    omega (arith, none, sectors, from)
