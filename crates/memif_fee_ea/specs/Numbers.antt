-- The numbers of two devices.
use Rattle.std.specs.Prelude.{◌&&◌, ℕ, Bool, true, List, [], ◌∷◌, is_none}
use Rattle.memif_pair.specs.nv_base.declared.instance.DeviceNumber.{DeviceNumber}
use Rattle.memif_pair.specs.memif.Told.{length_of}

-- none of the second list stands in the first one
abbrev pub are_apart : List (DeviceNumber × ℕ) → List (DeviceNumber × ℕ) → Bool
are_apart xs [] = true
are_apart xs (y ∷ ys) = is_none (length_of xs y.0.0) && are_apart xs ys
