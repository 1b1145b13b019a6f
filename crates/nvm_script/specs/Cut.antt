-- A text before and after a byte, and its lines.
use Rattle.std.specs.Prelude.{ℕ, ◌+◌, ◌==◌, if◌then◌else◌, List, [], ◌∷◌, take, drop, position, Option, Some, None}

-- what stands before a place, and what after it; all of it and None where there is no place
abbrev pub cut_where : List ℕ → Option ℕ → List ℕ × Option (List ℕ)
cut_where text (Some place) = (take place text, Some (drop (place + 1) text))
cut_where text None = (text, None)

-- what stands before the first such byte, and what after it
abbrev pub cut_at : ℕ → List ℕ → List ℕ × Option (List ℕ)
cut_at at text = cut_where text (position (λ b. b == at) text)

-- the first of these lines begins with this byte
abbrev pub begin_line : ℕ → List (List ℕ) → List (List ℕ)
begin_line b [] = (b ∷ []) ∷ []
begin_line b (line ∷ lines) = (b ∷ line) ∷ lines

-- the lines of a text, each with its newline
abbrev pub cut_lines : List ℕ → List (List ℕ)
cut_lines [] = []
cut_lines (b ∷ text) = if b == 10 then (b ∷ []) ∷ cut_lines text else begin_line b (cut_lines text)
