-- What holds of each element by its place.
use Rattle.std.specs.Prelude.{◌<◌, ℕ, List, length, slice_index_or}

abbrev pub AllPlaced : {P : Type 0} → (ℕ → P → Type 0) → List P → Type 0
AllPlaced {P} holds xs = (place : ℕ) (d : P) → place < length xs → holds place (slice_index_or xs place d)

-- what holds of each element by its place, before and behind
abbrev pub AllChanged : {P : Type 0} → (ℕ → P → P → Type 0) → List P → List P → Type 0
AllChanged {P} changes xs ys = (place : ℕ) (d : P) → place < length xs → changes place (slice_index_or xs place d) (slice_index_or ys place d)
