use Rattle.std.proofs.Common.{◌+◌}
use Rattle.ram_mirrors_sync.proofs.Blocks.{AreMadeTo}
use Rattle.ram_mirrors_sync.proofs.making.make.Given as goal

abbrev pub invariant-loop-i : goal.invariant-loop-i
invariant-loop-i g l = AreMadeTo l.config (l.i + 1) l.pairs.items l.ends.items l.sides.items
