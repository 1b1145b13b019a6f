use Rattle.memif_pair.proofs.Flips.{second_ticks}
use Rattle.memif_pair.proofs.SecondTurning.{second_turns}
use Rattle.memif_pair.proofs.turns.second_turns.Goals as goal

pub returns-clause-ticks : goal.returns-clause-ticks
returns-clause-ticks g c = second_ticks _ _ _ _ _ _ _ c.status-status.ensures.order

pub returns-clause-turns : goal.returns-clause-turns
returns-clause-turns g c = second_turns _ _ _ _ _ _ _ c.status-status.ensures.order c.turn.ensures
