use Rattle.ram_mirrors_sync.proofs.Belonging.{none_are_sides}
use Rattle.ram_mirrors_sync.proofs.sides.Sides.none.Goals as goal

pub returns-clause-own : goal.returns-clause-own
returns-clause-own g c = λ ps. none_are_sides ps _ c.loop-place.invariant.1
