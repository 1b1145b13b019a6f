-- The input as a whole.
use Rattle.std.specs.Prelude.{◌≡◌, ◌<◌, ℕ, List, length, Option, Some, None, IfSome}

-- the most bytes of input that are taken: 16 MiB
abbrev pub input_limit : ℕ
input_limit = 16777216

-- these are all bytes that were left, where they are told
abbrev pub IsAll : Option (List ℕ) → List ℕ → Type 0
IsAll (Some left) bytes = left ≡ bytes
IsAll None bytes = Unit {0}

-- more bytes than so many are left, where they are told
abbrev pub IsLonger : Option (List ℕ) → ℕ → Type 0
IsLonger left limit = IfSome left (λ bytes. limit < length bytes)
