-- Where what a number holds stands on the flash.
use Rattle.std.specs.Prelude.{◌≡◌, ◌≤◌, ◌+◌, ℕ, List}
use Rattle.nv_base.specs.Geometry.{size_of}
use Rattle.nv_base.specs.declared.mark.Mark.{Mark}
use Rattle.nv_base.specs.declared.mark.Mark.TheVariants as mark
use Rattle.memif.specs.Told.{slot_at}
use Rattle.fls_model.specs.Bytes.{piece}
use Rattle.fee_laws.specs.fee_told.Device.{Device, slots_in}
use Rattle.fee_core.specs.declared.mark_place.MarkPlace.{MarkPlace}
use Rattle.fee_core.specs.declared.mark_place.MarkPlace.TheVariants as place

-- the mark of a number of a length that stands so, where the flash has these bytes
abbrev pub mark_placed : MarkPlace → ℕ → List ℕ → Mark
mark_placed place.Erased length bytes = mark.Erased
mark_placed place.Invalid length bytes = mark.Invalid
mark_placed (place.Content address) length bytes = mark.Content (piece address length bytes)

-- a content lies on the flash
abbrev pub LiesWithin : ℕ → ℕ → MarkPlace → Type 0
LiesWithin size length (place.Content address) = address + length ≤ size
LiesWithin size length at = Unit {0}

-- It is what the number has settled, whatever the bytes are.
pub record IsMarkPlace (d : Device) (n length : ℕ) (at : MarkPlace) : Type 0 where
  pub settled : (bytes : List ℕ) → (slot_at d.making.numbers (slots_in d bytes) n).settled.mark ≡ mark_placed at length bytes
  pub within : LiesWithin (size_of d.flash.geometry) length at
