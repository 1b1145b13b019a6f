-- What the target of an open switch shows.
use Rattle.std.specs.Prelude.{ℕ, Bool, List, [], ◌∷◌, Option, Some, None, take}
use Rattle.nv_base.specs.declared.instance.DeviceNumber.{DeviceNumber}
use Rattle.nv_base.specs.Held.{Held}
use Rattle.fee_format.specs.declared.rec_head.RecHead.{RecHead}
use Rattle.fee_image.specs.declared.place.Place.{Place}
use Rattle.fee_image.specs.Places.{is_written}
use Rattle.fee_image.specs.Copies.{Flag}
use Rattle.fee_course.specs.declared.course.Course.{Course}
use Rattle.fee_course.specs.declared.course.Course.TheVariants.{Copy}
use Rattle.fee_switch_laws.specs.Flags.{CopiesOrNot, IsOpenFor}

-- each number's flag, with its place and what is settled for it
abbrev pub flags_of : List (DeviceNumber × ℕ) → List Place → List Bool → List Held → List Flag
flags_of (n ∷ ns) (place ∷ places) (copied ∷ flags) (h ∷ hs) =
    record { number = n.0.0; length = n.1; copied = copied; written = is_written place; settled = h } ∷ flags_of ns places flags hs
flags_of _ _ _ _ = []

-- a copy in work is of the mark that is settled for its number, or sets no flag; a copy of that is left to make
abbrev pub IsCopyIn : Bool → Option RecHead → List ℕ → List Flag → Type 0
IsCopyIn sets None buffer fs = Unit {0}
IsCopyIn sets (Some h) buffer fs = CopiesOrNot sets h (take h.length buffer) fs × IsOpenFor h.number.0 fs

abbrev pub IsCopying : Course → Option RecHead → List ℕ → List Flag → Type 0
IsCopying (Copy (Some w)) work buffer fs = IsCopyIn w.sets work buffer fs
IsCopying course work buffer fs = Unit {0}
