-- Pieces of a list of bytes.
use Rattle.std.specs.Prelude.{◌≡◌, ◌<◌, ◌+◌, ℕ, List, [], ◌∷◌, ◌++◌, length, get_or, take, drop, bit_and}

-- n bytes from an address on
abbrev pub piece : ℕ → ℕ → List ℕ → List ℕ
piece address n bytes = take n (drop address bytes)

-- the same bytes with a piece in place of what stood at an address
abbrev pub spliced : List ℕ → ℕ → List ℕ → List ℕ
spliced bytes address new = take address bytes ++ new ++ drop (address + length new) bytes

-- byte by byte, old AND new
abbrev pub and_bytes : List ℕ → List ℕ → List ℕ
and_bytes (x ∷ xs) (y ∷ ys) = bit_and x y ∷ and_bytes xs ys
and_bytes xs [] = xs
and_bytes [] ys = []

-- all outside a range is as it was
pub record SameOutside (address n : ℕ) (old new : List ℕ) : Type 0 where
  pub size : length new ≡ length old
  pub front : take address new ≡ take address old
  pub back : drop (address + n) new ≡ drop (address + n) old

-- each byte has the bits of the old one and maybe more, and stays a byte
abbrev pub Grown : List ℕ → List ℕ → Type 0
Grown [] [] = Unit {0}
Grown (x ∷ xs) (y ∷ ys) = (bit_and x y ≡ x) × (x < 256 → y < 256) × Grown xs ys
Grown _ _ = ⊥

-- numbers of eight bits
abbrev pub AreBytes : List ℕ → Type 0
AreBytes bytes = (k : ℕ) → get_or bytes k 0 < 256
