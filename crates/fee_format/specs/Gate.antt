-- Open gates.
use Rattle.std.specs.Prelude.{◌≡◌, List, ℕ, Bool}
use Rattle.fee_format.specs.Pages.{gate_page, same_bytes}

-- a page of p bytes is a gate that stands open: all its bytes are 0
abbrev pub IsGate : ℕ → List ℕ → Type 0
IsGate p page = page ≡ gate_page p

-- the same, as a test
abbrev pub is_gate : ℕ → List ℕ → Bool
is_gate p page = same_bytes page (gate_page p)
