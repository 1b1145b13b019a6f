use Rattle.std.proofs.Common.{◌≡◌, ◌<◌, ℕ, is_some}
use Rattle.ram_mirrors_sync.specs.Blocks.{pair_at, side_at}
use Rattle.ram_mirrors_sync.proofs.sides.Sides.are_in.Given as goal

abbrev pub invariant-loop-place : goal.invariant-loop-place
invariant-loop-place g l = (id : ℕ) → id < l.place → is_some (side_at l.self id) ≡ is_some (pair_at l.mirrors id)
