-- A device over banks and one over slots that were made of numbers that are apart may be made one.
use Rattle.std.specs.Prelude.{not, ◌&&◌}
use Rattle.std.proofs.Common.{◌≡◌, ℕ, Bool, true, false, List, refl, sym, ap, ◌∙◌, subst}
use Rattle.memif_pair.specs.nv_base.declared.instance.DeviceNumber.{DeviceNumber}
use Rattle.memif_pair.specs.nv_base.Lengths.{AreLengths}
use Rattle.memif_pair.specs.memif.Told.{Fixed, is_open, length_of}
use Rattle.memif_pair.specs.Pair.{is_second}
use Rattle.memif_pair.specs.Both.{ArePaired}
use Rattle.fee_core.specs.fls_model.Told.{Told}
use Rattle.fee_core.specs.promise_device.Making as flash
use Rattle.fee_core.specs.fee_told.Device as fee
use Rattle.ea_slots.specs.ea_told.Making as eeprom
use Rattle.ea_slots.specs.Whole as ea
use Rattle.memif_fee_ea.specs.Made.{AreMade}
use Rattle.memif_fee_ea.proofs.Apart.{apart}

rests_by : (o s : Bool) → o ≡ false → s ≡ false → (not o && not s) ≡ true
rests_by true s closed rests = absurd (cc closed)
rests_by false true closed rests = absurd (cc rests)
rests_by false false closed rests = refl

pub paired : (m : flash.Making) (entry : Told) (n : eeprom.Making) (d : fee.Device) (e : ea.Device) → AreMade m entry n d e → ArePaired (fee.told_of d) (ea.told_in e)
paired m entry n d e made =
    let numbers_a : (fee.told_of d).fixed.numbers ≡ m.numbers = ap (λ (x : flash.Making). x.numbers) made.first.making in
    let numbers_b : (ea.told_in e).fixed.numbers ≡ n.numbers = ap (λ (f : Fixed). f.numbers) made.second.fixed in
    record {
      pair = record {
        first = refl;
        second = ap (λ (f : Fixed). f.two) made.second.fixed;
        apart = λ k there. ap (λ (ns : List (DeviceNumber × ℕ)). length_of ns k) numbers_a ∙ apart m.numbers n.numbers made.apart k (subst (λ (ns : List (DeviceNumber × ℕ)). is_second ns k ≡ true) numbers_b there);
      };
      part = made.part;
      ascend = subst (λ (ns : List (DeviceNumber × ℕ)). AreLengths 0 ns) (sym numbers_b) made.ascend;
      own = ap (λ (f : Fixed). f.own) made.second.fixed;
      first = record { ops = made.first.ops; rests = made.first.rests };
      second = record { ops = made.second.ops; rests = rests_by (is_open (ea.told_in e).stand) (ea.told_in e).switching (ap is_open made.second.stand) refl };
    }
