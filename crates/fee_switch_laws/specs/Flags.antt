-- The flags of the numbers, beside their places.
use Rattle.std.specs.Prelude.{◌≡◌, ◌==◌, ◌&&◌, if◌then◌else◌, ℕ, Bool, true, false, IsTrue, List, [], ◌∷◌, map}
use Rattle.nv_base.specs.declared.instance.DeviceNumber.{DeviceNumber}
use Rattle.fee_format.specs.declared.rec_head.RecHead.{RecHead}
use Rattle.fee_image.specs.declared.place.Place.{Place}
use Rattle.fee_image.specs.Log.{Tail, Writes}
use Rattle.fee_image.specs.May.{held_written}
use Rattle.fee_image.specs.Places.{is_written}
use Rattle.fee_image.specs.Step.{is_last}
use Rattle.fee_image.specs.Banks.{Banks}
use Rattle.fee_image.specs.Copies.{Flag, is_done, copied_of, cleared, settled_at, marked, Each, Copies}

-- the target may show what the flags say
abbrev pub flagged : Banks → List Flag → Banks
flagged s fs = record s { copied = copied_of fs }

-- these flags are those of the numbers with their places: there is a record exactly where the place has one
abbrev pub AreFlagsOf : List (DeviceNumber × ℕ) → List Place → List Bool → List Flag → Type 0
AreFlagsOf [] [] [] [] = Unit {0}
AreFlagsOf (n ∷ ns) (place ∷ places) (done ∷ copied) (f ∷ fs) =
    (f.number ≡ n.0.0) × (f.length ≡ n.1) × (f.copied ≡ done) × (f.written ≡ is_written place) × AreFlagsOf ns places copied fs
AreFlagsOf _ _ _ _ = ⊥

-- a copy is left to make of a number
abbrev pub IsOpenFor : ℕ → List Flag → Type 0
IsOpenFor number fs = Each (λ f. IsTrue (f.number == number) → is_done f ≡ false) fs

-- no number is copied
abbrev pub all_clear : List Flag → List Flag
all_clear fs = map {A = Flag} (λ f. record f { copied = false }) fs

-- A COPY
-- the record in work copies the settled mark of its number, or, where it sets no flag, a copy of that is left to make
abbrev pub CopiesOrNot : Bool → RecHead → List ℕ → List Flag → Type 0
CopiesOrNot true h body fs = Each (Copies h body) fs
CopiesOrNot false h body fs = IsOpenFor h.number.0 fs

abbrev pub IsCopyOf : Bool → Tail → List Flag → Type 0
IsCopyOf sets (Writes h body done) fs = CopiesOrNot sets h body fs
IsCopyOf sets _ fs = Unit {0}

-- its last page sets the flag
abbrev pub flags_copied : ℕ → Bool → Tail → List Flag → List Flag
flags_copied p sets (Writes h body done) fs = if is_last p h done && sets then marked h.number.0 fs else fs
flags_copied p sets _ fs = fs

-- AN APPEND
-- the flag of the record's number is clear
abbrev pub IsAppendTo : Tail → List Flag → Type 0
IsAppendTo (Writes h body done) fs = cleared h.number.0 fs ≡ fs
IsAppendTo _ fs = Unit {0}

-- its last page settles its mark
abbrev pub flags_appended : ℕ → Tail → List Flag → List Flag
flags_appended p (Writes h body done) fs = if is_last p h done then settled_at h.number.0 (held_written h body) fs else fs
flags_appended p _ fs = fs
