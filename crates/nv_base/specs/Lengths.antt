-- Device numbers with their lengths.
use Rattle.std.specs.Prelude.{◌≡◌, ◌==◌, ℕ, ◌<◌, ◌≤◌, ◌+◌, List, [], ◌∷◌, length, slice_index_or, if◌then◌else◌, Option, Some, None, option_map}
use Rattle.nv_base.specs.declared.instance.DeviceNumber.{DeviceNumber}

-- numbers that ascend above one, below 65,535, with lengths of 1 to 4,096
abbrev pub AreLengths : ℕ → List (DeviceNumber × ℕ) → Type 0
AreLengths low [] = Unit {0}
AreLengths low (x ∷ xs) = (low < x.0.0) × (x.0.0 < 65535) × (1 ≤ x.1) × (x.1 ≤ 4096) × AreLengths x.0.0 xs

-- the last number, or this one where there is none
abbrev pub last_or : ℕ → List (DeviceNumber × ℕ) → ℕ
last_or low [] = low
last_or low (x ∷ xs) = last_or x.0.0 xs

-- a number stands at a place, from 0
pub record IsPlace (xs : List (DeviceNumber × ℕ)) (number place : ℕ) : Type 0 where
  pub within : place < length xs
  pub is : (d : DeviceNumber × ℕ) → (slice_index_or xs place d).0.0 ≡ number

-- the place of a number, where it stands
abbrev pub place_of : List (DeviceNumber × ℕ) → ℕ → Option ℕ
place_of [] number = None
place_of (x ∷ xs) number = if x.0.0 == number then Some 0 else option_map (λ place. place + 1) (place_of xs number)
