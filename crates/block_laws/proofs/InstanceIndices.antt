-- The indices of the instances that a job works on.
use Rattle.std.specs.Prelude.{slice_get, nat_le}
use Rattle.std.proofs.Common.{◌≡◌, ◌≤◌, ℕ, zero, suc, Bool, true, false, if◌then◌else◌, List, [], ◌∷◌, length, Some, refl, arith}
use Rattle.std.proofs.Math.Bool.{or-true}
use Rattle.std.proofs.lemmas.Bool.{eq-eqb}
use Rattle.block_machine.specs.block_config.Block.{record_count}
use Rattle.block_machine.specs.Words.{BlockKind, Native, Redundant, Dataset}
use Rattle.block_machine.specs.Blocks.{is_in, indices_by}

pub is_in_at : (xs : List ℕ) (n x : ℕ) → slice_get xs n ≡ Some x → is_in xs x ≡ true
is_in_at [] n x has = cc
is_in_at (y ∷ ys) zero x has = let same : y ≡ x = cc in rw (eq-eqb y x same) refl
is_in_at (y ∷ ys) (suc n) x has = rw (is_in_at ys n x has, or-true) refl

-- a job has a record for each
pub few_indices : (kind : BlockKind) (nv at : ℕ) → length (indices_by kind nv at) ≤ record_count kind
few_indices Native nv at = omega arith
few_indices Redundant nv at = omega arith
few_indices Dataset nv at = by (nat_le nv at)
  where
    by : (rom : Bool) → length (if rom then [] else at ∷ []) ≤ 1
    by true = omega arith
    by false = omega arith
