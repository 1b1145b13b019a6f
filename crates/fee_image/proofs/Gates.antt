-- What a seal keeps.
use Rattle.std.proofs.Common.{List, Option, subst}
use Rattle.nv_base.specs.Held.{Held}
use Rattle.fee_format.specs.Formats.{new_format}
use Rattle.fee_image.specs.Image.{bank_in}
use Rattle.fee_image.specs.Places.{held_at}
use Rattle.fee_image.specs.May.{IsAmong}
use Rattle.fee_image.specs.Banks.{Sealing}
use Rattle.fee_image.specs.BankLaws.{SealsKeepSettled}
use Rattle.fee_image.proofs.Seals.{in_phase}
use Rattle.fee_image.proofs.Placed.{each_is_placed}

-- one mark alone is that mark
pub seals_keep_settled : SealsKeepSettled
seals_keep_settled l numbers bytes s log i n m holds is at one =
    let c = in_phase l numbers bytes s (Sealing log) is holds in
    let b = bank_in l new_format s.target in
    let placed = each_is_placed b bytes s.copied log.end i numbers log.places n c.holds.placed at in
    record { place = placed.place; is = placed.is; within = placed.within; among = subst (λ (o : Option (List Held)). IsAmong o (held_at b bytes n.1 placed.place)) one placed.among }
