-- Marks with one more behind them.
use Rattle.std.proofs.Common.{◌≡◌, ◌+◌, ℕ, List, [], ◌∷◌, ◌++◌, refl}
use Rattle.block_machine.specs.nv_base.declared.instance.Instance.{Instance}
use Rattle.block_machine.specs.nv_base.declared.mark.Mark.{Mark}
use Rattle.block_machine.specs.nv_base.Marks.{number_of, next_or}

pub next_behind : (low : ℕ) (marks : List (Instance × Mark)) (i : Instance) (mark : Mark) → next_or low (marks ++ (i, mark) ∷ []) ≡ number_of i + 1
next_behind low [] i mark = refl
next_behind low (x ∷ xs) i mark = next_behind (number_of x.0 + 1) xs i mark
