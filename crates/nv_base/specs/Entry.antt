-- The operations that the entries of a history tell.
use Rattle.std.specs.Prelude.{ℕ, List, Option, Some, None, unwrap_or}
use Rattle.std.specs.List.{fold}
use Rattle.nv_base.specs.declared.entry.Entry.{Entry}
use Rattle.nv_base.specs.declared.entry.Entry.TheVariants.{Ask, Pick, Wrote, Post, Off, Found}

-- the changing operations so far, which each entry but a request tells
abbrev pub ops_of : Entry → Option ℕ
ops_of (Ask caller request reply) = None
ops_of (Pick block job taken ops) = Some ops
ops_of (Wrote instance mark ops) = Some ops
ops_of (Post block result_of given refused ops) = Some ops
ops_of (Off ops) = Some ops
ops_of (Found marks ops) = Some ops

-- the operations so far by the last entry that tells them, and these where none does
abbrev pub ops_behind : ℕ → List Entry → ℕ
ops_behind ops h = fold (λ n e. unwrap_or (ops_of e) n) ops h
