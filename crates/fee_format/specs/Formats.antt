-- The formats of an image.
use Rattle.std.specs.Prelude.{◌≡◌, ◌⊎◌, ◌==◌, ◌||◌, if◌then◌else◌, ℕ, Bool, true, false, List, replicate}
use Rattle.std.specs.Int.{bytes_high_first}

-- the one whose records have no count, which is read and not written
abbrev pub old_format : ℕ
old_format = 1

-- the one that is written
abbrev pub new_format : ℕ
new_format = 2

abbrev pub IsFormat : ℕ → Type 0
IsFormat format = (format ≡ old_format) ⊎ (format ≡ new_format)

abbrev pub is_format : ℕ → Bool
is_format format = (format == old_format) || (format == new_format)

-- without a count it is 0
abbrev pub CountIn : Bool → ℕ → Type 0
CountIn true count = Unit {0}
CountIn false count = count ≡ 0

abbrev pub IsCountIn : ℕ → ℕ → Type 0
IsCountIn format count = CountIn (format == new_format) count

abbrev pub is_count_in : ℕ → ℕ → Bool
is_count_in format count = (format == new_format) || (count == 0)

-- it stands in four bytes, which are blank without one
abbrev pub count_bytes : ℕ → ℕ → List ℕ
count_bytes format count = if format == new_format then bytes_high_first 4 count else replicate 4 255
