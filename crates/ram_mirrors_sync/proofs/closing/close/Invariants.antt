use Rattle.ram_mirrors_sync.proofs.Ending.{AreClosedTo}
use Rattle.ram_mirrors_sync.proofs.closing.close.Given as goal

abbrev pub invariant-loop-place : goal.invariant-loop-place
invariant-loop-place g l = AreClosedTo l.place l.initial.pairs.items l.pairs.items l.initial.ends.items l.ends.items l.initial.sides.items l.sides.items
