use Rattle.memif_pair.proofs.Resting.{own_turns}
use Rattle.memif_pair.proofs.Ticking.{first_ticks}
use Rattle.memif_pair.proofs.Turned.{first_turns}
use Rattle.memif_pair.proofs.turns.first_turns.Goals as goal

pub returns-clause-ticks : goal.returns-clause-ticks
returns-clause-ticks g c = first_ticks _ _ _ _ _ _ _ c.status-status.ensures.order

pub returns-clause-turns : goal.returns-clause-turns
returns-clause-turns g c = first_turns _ _ _ _ _ _ _ c.status-status.ensures.order c.turn.ensures

pub returns-clause-own : goal.returns-clause-own
returns-clause-own g c = own_turns _ _ _ _ _ _ _ c.status-status.ensures.order c.turn.ensures
