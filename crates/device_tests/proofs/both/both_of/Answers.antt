use Rattle.std.proofs.Common.{refl}
use Rattle.memif_fee_ea.specs.ea_slots.Whole.{told_in}
use Rattle.device_tests.proofs.Paired.{paired}
use Rattle.device_tests.proofs.both.both_of.Goals as goal

pub make-requires : goal.make-requires
make-requires g c = paired c.args.in_memory (told_in c.args.over_slots) g.O.Origin.making (record { 0 = 64 }, 4) (record { 0 = 128 }, 4) c.requires.in_memory c.requires.over_slots refl c.requires.number refl c.requires.slots.lengths
