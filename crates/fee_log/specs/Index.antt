-- The places and the flags of the numbers, in their order.
use Rattle.std.specs.Prelude.{◌==◌, ◌<◌, ◌^◌, ℕ, Bool, false, if◌then◌else◌, List, [], ◌∷◌, map, Option, Some, None, slice_get}
use Rattle.nv_base.specs.declared.instance.DeviceNumber.{DeviceNumber}
use Rattle.nv_base.specs.Lengths.{place_of}
use Rattle.fee_image.specs.declared.place.Place.{Place}
use Rattle.fee_image.specs.declared.place.Place.TheVariants.{Unwritten}
use Rattle.fee_image.specs.Places.{IsWithin, count_at}

-- what stands at an index, or this where there is none
abbrev pub at_index : {A : Type 0} → List A → Option ℕ → Option A
at_index xs None = None
at_index xs (Some i) = slice_get xs i

abbrev pub or_else : {A : Type 0} → A → Option A → A
or_else d None = d
or_else d (Some x) = x

-- the place of a number; Unwritten where it isn't configured
abbrev pub place_in : List (DeviceNumber × ℕ) → List Place → ℕ → Place
place_in numbers places number = or_else Unwritten (at_index places (place_of numbers number))

-- the flag of a number; clear where it isn't configured
abbrev pub flag_in : List (DeviceNumber × ℕ) → List Bool → ℕ → Bool
flag_in numbers flags number = or_else false (at_index flags (place_of numbers number))

-- the flags with that of a number set or cleared
abbrev pub with_flag : List (DeviceNumber × ℕ) → List Bool → ℕ → Bool → List Bool
with_flag (n ∷ ns) (flag ∷ flags) number on = (if n.0.0 == number then on else flag) ∷ with_flag ns flags number on
with_flag _ flags number on = flags

-- none is set
abbrev pub clear_flags : List (DeviceNumber × ℕ) → List Bool
clear_flags numbers = map (λ n. false) numbers

-- each number has one place, and its content lies among the bank's records
abbrev pub AreWithin : ℕ → ℕ → List (DeviceNumber × ℕ) → List Place → Type 0
AreWithin p end [] [] = Unit {0}
AreWithin p end (n ∷ ns) (place ∷ places) = IsWithin p end n.1 place × AreWithin p end ns places
AreWithin p end _ _ = ⊥

-- and has been written so often that 32 bits have room for it
abbrev pub AreCounted : List Place → Type 0
AreCounted [] = Unit {0}
AreCounted (place ∷ places) = (count_at place < 2 ^ 32) × AreCounted places
