-- What the promise says of moves, by the law along them.
use Rattle.nvm_moves.proofs.Common.{List, [], ◌∷◌, Clock, TakesKept, Worn, Move, ArePaidSince, BeginWhatIsDue, CountFailed, StaysAtRest, TakeKept, Cursor, Frame, next_by, Along, IsLawful, IsPaidAt, AreMovesMade}

module _ (f : Frame) (clock : Clock) where
  pub are_made : (k : Cursor) (ms : List Move) → Along f (IsLawful f.config clock) k ms → AreMovesMade k.now ms
  are_made k [] along = tt
  are_made k (m ∷ ms) (one, rest) = (one.made, are_made (next_by f k m) ms rest)

  pub count_failed : (k : Cursor) (ms : List Move) → Along f (IsLawful f.config clock) k ms → CountFailed clock.failed k.now ms
  count_failed k [] along = tt
  count_failed k (m ∷ ms) (one, rest) = (one.failed, count_failed (next_by f k m) ms rest)

  pub take_kept : (k : Cursor) (ms : List Move) → Along f (IsLawful f.config clock) k ms → TakeKept f.config (clock.was TakesKept) k.now k.state ms
  take_kept k [] along = tt
  take_kept k (m ∷ ms) (one, rest) = (one.kept, take_kept (next_by f k m) ms rest)

  pub stays_at_rest : (k : Cursor) (ms : List Move) → Along f (IsLawful f.config clock) k ms → StaysAtRest f.config k.now k.state ms
  stays_at_rest k [] along = tt
  stays_at_rest k (m ∷ ms) (one, rest) = (one.rests, stays_at_rest (next_by f k m) ms rest)

  pub begin_what_is_due : (k : Cursor) (ms : List Move) → Along f (IsLawful f.config clock) k ms → BeginWhatIsDue f.within f.config k.since k.state ms
  begin_what_is_due k [] along = tt
  begin_what_is_due k (m ∷ ms) (one, rest) = (one.begins, begin_what_is_due (next_by f k m) ms rest)

pub are_paid : (f : Frame) (worn : Worn) (k : Cursor) (ms : List Move) → Along f (IsPaidAt f.config worn) k ms → ArePaidSince f.config worn k.picked k.now k.state ms
are_paid f worn k [] along = tt
are_paid f worn k (m ∷ ms) (one, rest) = (one, are_paid f worn (next_by f k m) ms rest)
