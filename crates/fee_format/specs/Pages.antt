-- Pages as lists of bytes.
pub use Rattle.nv_base.specs.Pages.{body_pages_of, record_pages_of}
use Rattle.std.specs.Prelude.{ℕ, ◌*◌, ◌==◌, ◌&&◌, Bool, true, false, List, [], ◌∷◌, take, drop, replicate}

-- what stands on page q of these bytes
abbrev pub page_at : ℕ → List ℕ → ℕ → List ℕ
page_at p bytes q = take p (drop (q * p) bytes)

-- a gate that stands open
abbrev pub gate_page : ℕ → List ℕ
gate_page p = replicate p 0

-- an erased page
abbrev pub blank_page : ℕ → List ℕ
blank_page p = replicate p 255

-- whether two lists of bytes are the same
abbrev pub same_bytes : List ℕ → List ℕ → Bool
same_bytes [] [] = true
same_bytes (x ∷ xs) (y ∷ ys) = (x == y) && same_bytes xs ys
same_bytes _ _ = false
