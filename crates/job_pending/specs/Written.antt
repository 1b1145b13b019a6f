-- The indices of the instances that were written.
use Rattle.std.specs.Prelude.{ℕ, List, [], ◌∷◌, Option, Some, None}

-- none, the first, or both
abbrev pub written_of : Option ℕ → Option ℕ → List ℕ
written_of None second = []
written_of (Some x) None = x ∷ []
written_of (Some x) (Some y) = x ∷ y ∷ []
