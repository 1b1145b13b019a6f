-- Moves behind which no planned cut is missed.
use Rattle.std.proofs.Common.{◌≡◌, List, [], ◌∷◌, ◌++◌, Option, None, refl, subst}
use Rattle.block_machine.specs.Words.{Entry, Configuration}
use Rattle.block_machine.specs.State.{State}
use Rattle.block_machine.specs.Steps.{step, after_from}
use Rattle.promise_run.specs.Turns.{Move, Planned, entry_list, entries_of, AreInTime}

-- where none is planned
pub none_in_time : (c : Configuration) (s : State) (ms : List Move) → AreInTime c None s ms
none_in_time c s [] = tt
none_in_time c s (m ∷ ms) = (tt, none_in_time c (after_from c s (entry_list m.entry)) ms)

pub from_more : (c : Configuration) (s : State) (es more : List Entry) → after_from c s (es ++ more) ≡ after_from c (after_from c s es) more
from_more c s [] more = refl
from_more c s (e ∷ es) more = from_more c (step c s e) es more

-- behind more moves
pub in_time_more : (c : Configuration) (plan : Option Planned) (s : State) (xs ys : List Move) → AreInTime c plan s xs → AreInTime c plan (after_from c s (entries_of xs)) ys → AreInTime c plan s (xs ++ ys)
in_time_more c plan s [] ys one two = two
in_time_more c plan s (m ∷ ms) ys (here, rest) two =
    (here, in_time_more c plan (after_from c s (entry_list m.entry)) ms ys rest (subst (λ (t : State). AreInTime c plan t ys) (from_more c s (entry_list m.entry) (entries_of ms)) two))
