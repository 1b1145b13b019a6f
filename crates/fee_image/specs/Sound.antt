-- Images in which a torn erase makes no bank stand.
use Rattle.std.specs.Prelude.{◌<◌, ◌&&◌, if◌then◌else◌, ℕ, zero, suc, Bool, true, List}
use Rattle.fee_format.specs.Gate.{IsGate, is_gate}
use Rattle.fee_format.specs.SoundHead.{IsSoundHead, is_sound_head}
use Rattle.fee_image.specs.Image.{Layout, image_page}

-- where the gate of bank k is open, its page 0 may stand before it
abbrev pub IsSoundBank : Layout → List ℕ → ℕ → Type 0
IsSoundBank l bytes k = IsGate l.page (image_page l bytes k 1) → IsSoundHead (image_page l bytes k 0)

-- so it is in each bank
abbrev pub IsSoundImage : Layout → List ℕ → Type 0
IsSoundImage l bytes = (k : ℕ) → k < l.banks → IsSoundBank l bytes k

-- the same, computed: it reads the first two pages of each bank
abbrev pub is_sound_bank : Layout → List ℕ → ℕ → Bool
is_sound_bank l bytes k = if is_gate l.page (image_page l bytes k 1) then is_sound_head (image_page l bytes k 0) else true

abbrev pub are_sound_below : Layout → List ℕ → ℕ → Bool
are_sound_below l bytes zero = true
are_sound_below l bytes (suc k) = is_sound_bank l bytes k && are_sound_below l bytes k

abbrev pub is_sound_image : Layout → List ℕ → Bool
is_sound_image l bytes = are_sound_below l bytes l.banks
