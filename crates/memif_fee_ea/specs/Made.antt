-- The device of a flash and an EEPROM, from its making on.
use Rattle.std.specs.Prelude.{◌≡◌, ℕ, true, false, [], Err}
use Rattle.memif_pair.specs.nv_base.declared.geometry.Geometry.{Geometry}
use Rattle.memif_pair.specs.nv_base.Lengths.{AreLengths}
use Rattle.memif_pair.specs.memif.Told.{DeviceTold, First, figures_at}
use Rattle.memif_pair.specs.Both.{BothState}
use Rattle.fee_core.specs.fls_model.Attach.{IsAttach, IsAttached}
use Rattle.fee_core.specs.fls_model.Told.{Told}
use Rattle.fee_core.specs.fls_model.declared.flash.AttachFault.{AttachFault}
use Rattle.fee_core.specs.promise_device.Making as flash
use Rattle.fee_core.specs.fee_told.Device as fee
use Rattle.fee_core.specs.fee_laws.Made as fee_made
use Rattle.ea_slots.specs.ea_told.Making as eeprom
use Rattle.ea_slots.specs.Whole as ea
use Rattle.memif_fee_ea.specs.Numbers.{are_apart}
use Rattle.memif_fee_ea.specs.declared.making.PairPart.{PairPart}
use Rattle.memif_fee_ea.specs.declared.making.PairPart.TheVariants.{Flash, Eeprom}

-- A device over banks and one over slots were just made. All numbers of the first one are of its one part, and those of the second one
-- ascend and are none of the first one's.
pub record AreMade (m : flash.Making) (entry : Told) (n : eeprom.Making) (d : fee.Device) (e : ea.Device) : Type 0 where
  pub first : fee_made.IsMadeOf m entry d
  pub part : (k : ℕ) → (figures_at (fee.told_of d).fixed k).part ≡ First
  pub second : ea.IsMadeOf n (ea.told_in e)
  pub ascend : AreLengths 0 n.numbers
  pub apart : are_apart m.numbers n.numbers ≡ true

-- each of the two was just made, and no job was started on either
pub record IsMadeOf (m : flash.Making) (entry : Told) (n : eeprom.Making) (s : BothState fee.Device ea.Device) : Type 0 where
  pub first : fee_made.IsMadeOf m entry s.first
  pub second : ea.IsMadeOf n (ea.told_in s.second)
  pub last : s.last ≡ false
  pub course : s.course ≡ []

-- its parts are those of both flashes before
pub record AreParts (entry other : Told) (d : DeviceTold) : Type 0 where
  pub first : d.first ≡ fee_made.part_at entry
  pub second : d.second ≡ ea.part_at other

-- one of both isn't attached, of what each told before: where it is the flash, the EEPROM is left alone, and else the flash was attached
abbrev pub IsRefused : (flash eeprom : Geometry) → PairPart → AttachFault → (f f_new e e_new : Told) → Type 0
IsRefused flash eeprom Flash fault f f_new e e_new = IsAttach flash f (Err fault) f_new × (e_new ≡ e)
IsRefused flash eeprom Eeprom fault f f_new e e_new = IsAttached flash f f_new × IsAttach eeprom e (Err fault) e_new
