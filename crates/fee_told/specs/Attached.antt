-- An image with which a flash is attached.
use Rattle.std.specs.Prelude.{◌≡◌, ◌<◌, ◌↔◌, ℕ, List, length}
use Rattle.fee_image.specs.Sound.{IsSoundImage}
use Rattle.promise_device.specs.Making.{Making, banks_of}
use Rattle.promise_device.specs.Image.{held_in, IsSoundFlash}
use Rattle.fee_told.specs.Slots.{held_of}

-- an image that isn't empty is attached as it is
abbrev pub ImagesAttach : Type 0
ImagesAttach =
    (m : Making) (image : List ℕ) → 0 < length image
    → ((n : ℕ) → held_in m image n ≡ held_of (banks_of m) m.numbers image n) × (IsSoundFlash m image ↔ IsSoundImage (banks_of m) image)
