use Rattle.std.proofs.Common.{arith}
use Rattle.nv_base.proofs.Placed.{placed_length}
use Rattle.nv_base.proofs.history.History.len.Goals as goal

pub returns-clause-count : goal.returns-clause-count
returns-clause-count c = rw (← c.self.view_is) (grind (arith, placed_length _ _ c.self.invariant.within, c.len.ensures))

pub returns-clause-within : goal.returns-clause-within
returns-clause-within c = rw (← c.self.view_is) (omega (arith, placed_length _ _ c.self.invariant.within, c.self.invariant.capped))
