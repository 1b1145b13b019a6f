-- A guard of bytes by their complements: whatever bits a torn erase sets, it makes no other bytes of them.
use Rattle.std.specs.Prelude.{◌≡◌, ◌↔◌, ◌<◌, ℕ, ◌-◌, List, [], ◌∷◌, ◌++◌, length, map, Option, Some, None, bit_and}
use Rattle.fls_model.specs.Bytes.{Grown, AreBytes}

-- the complement of each
abbrev pub complements : List ℕ → List ℕ
complements bytes = map (λ b. 255 - b) bytes

-- bytes, and behind them their complements
abbrev pub guarded : List ℕ → List ℕ
guarded bytes = bytes ++ complements bytes

-- of guarded bytes a torn erase leaves no others of as many
abbrev pub GuardsHold : Type 0
GuardsHold =
    (xs ys rest more : List ℕ) → AreBytes xs → AreBytes ys → length xs ≡ length ys
    → Grown (guarded xs ++ rest) (guarded ys ++ more) → xs ≡ ys

-- WHAT MAY COME TO BE GUARDED

-- bytes of which some are known, and the others are any
abbrev pub IsAs : Option ℕ → ℕ → Type 0
IsAs None b = b < 256
IsAs (Some known) b = (b ≡ known) × (b < 256)

abbrev pub AreAs : List (Option ℕ) → List ℕ → Type 0
AreAs [] [] = Unit {0}
AreAs (o ∷ os) (b ∷ bs) = IsAs o b × AreAs os bs
AreAs _ _ = ⊥

-- two bytes without a bit in common: more bits can make complements of them
abbrev pub AreApart : ℕ → ℕ → Type 0
AreApart x y = ((x < 256) × (y < 256)) × (bit_and x y ≡ 0)

-- of a known byte and its complement they have no other bits
abbrev pub PairGrows : Option ℕ → ℕ → ℕ → Type 0
PairGrows None x y = AreApart x y
PairGrows (Some known) x y = (known < 256) × (bit_and x known ≡ x) × (bit_and y (255 - known) ≡ y)

abbrev pub PairsGrow : List (Option ℕ) → List ℕ → List ℕ → Type 0
PairsGrow [] [] [] = Unit {0}
PairsGrow (o ∷ os) (x ∷ xs) (y ∷ ys) = PairGrows o x y × PairsGrow os xs ys
PairsGrow _ _ _ = ⊥

-- more bits make such bytes and their complements of two lists exactly where they do of each pair
abbrev pub GuardsMayGrow : Type 0
GuardsMayGrow =
    (os : List (Option ℕ)) (xs ys : List ℕ)
    → PairsGrow os xs ys ↔ ((bs : List ℕ) × AreAs os bs × Grown xs bs × Grown ys (complements bs))
