use Rattle.std.proofs.Common.{◌≡◌, ℕ, None, length}
use Rattle.ram_mirrors_sync.specs.Blocks.{side_at}
use Rattle.ram_mirrors_sync.proofs.sides.Sides.none.Given as goal

abbrev pub invariant-loop-place : goal.invariant-loop-place
invariant-loop-place g l = (length l.sides.items ≡ l._place) × ((id : ℕ) → side_at l.sides.items id ≡ None)
