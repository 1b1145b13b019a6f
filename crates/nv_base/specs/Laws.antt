-- Laws of device numbers with their lengths, for the layers above.
use Rattle.std.specs.Prelude.{◌≡◌, ◌<◌, ◌≤◌, ◌+◌, ℕ, All, List, take, slice_get, Some}
use Rattle.nv_base.specs.declared.instance.DeviceNumber.{DeviceNumber}
use Rattle.nv_base.specs.Lengths.{AreLengths, last_or, place_of}

-- numbers that ascend above one are all above it
abbrev pub NumbersAreAbove : Type 0
NumbersAreAbove = (low : ℕ) (ns : List (DeviceNumber × ℕ)) → AreLengths low ns → All (λ n. low < n.0.0) ns

-- what stands at an index is within the bounds of a number and a length
abbrev pub NumbersAreInBounds : Type 0
NumbersAreInBounds =
    (low : ℕ) (ns : List (DeviceNumber × ℕ)) (i : ℕ) (x : DeviceNumber × ℕ) → AreLengths low ns → slice_get ns i ≡ Some x
    → (low < x.0.0) × (x.0.0 < 65535) × (1 ≤ x.1) × (x.1 ≤ 4096)

-- and has its place there
abbrev pub NumbersHavePlaces : Type 0
NumbersHavePlaces =
    (low : ℕ) (ns : List (DeviceNumber × ℕ)) (i : ℕ) (x : DeviceNumber × ℕ) → AreLengths low ns → slice_get ns i ≡ Some x
    → place_of ns x.0.0 ≡ Some i

-- it is above all before it, and the last of those up to it
abbrev pub NumbersComeLast : Type 0
NumbersComeLast =
    (low : ℕ) (ns : List (DeviceNumber × ℕ)) (i : ℕ) (x : DeviceNumber × ℕ) → AreLengths low ns → slice_get ns i ≡ Some x
    → (last_or low (take i ns) < x.0.0) × (last_or low (take (i + 1) ns) ≡ x.0.0)
