use Rattle.std.proofs.Common.{◌≡◌}
use Rattle.ram_mirrors_sync.specs.Blocks.{IsSideIn}
use Rattle.nvm_tests.proofs.sides.store_all.Given as goal

abbrev pub invariant-loop-i : goal.invariant-loop-i
invariant-loop-i l = IsSideIn l.mirrors l.side × (l.side.block ≡ l.initial.side.block)
