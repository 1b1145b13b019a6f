use Rattle.std.proofs.Common.{length, ap, arith}
use Rattle.std.proofs.lemmas.List.{length-take-le}
use Rattle.ea_image.proofs.slot_head.write_slot_head.Goals as goal

pub copy_from_slice-requires : goal.copy_from_slice-requires
copy_from_slice-requires c =
    omega (arith, length-take-le 16 c.args.page.now (omega arith), ap length c.bytes_of.ensures)
