use Rattle.fee_log.proofs.Within.{within_length}
use Rattle.fee_log.proofs.log.Log.lists.Goals as goal

pub returns-clause-places_count : goal.returns-clause-places_count
returns-clause-places_count c = rw (← c.self.view_is) (within_length _ _ _ _ c.self.invariant.places)
