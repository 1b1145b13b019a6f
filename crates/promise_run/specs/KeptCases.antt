-- Pages that are kept for urgent writes, and a switch of banks at its seal, turn by turn.
use Rattle.std.specs.Prelude.{ℕ, ◌+◌, List, [], ◌∷◌, map, replicate, Some, None}
use Rattle.memif.specs.Clock.{TakesKept}
use Rattle.fls_model.specs.declared.flash.FlashAnswer.{FlashAnswer}
use Rattle.fls_model.specs.Op.{Program}
use Rattle.block_machine.specs.Words.{Write, Accepted, WriteJob, TookContent, Ask, Pick, Found}
use Rattle.block_machine.specs.State.{State}
use Rattle.block_machine.specs.Steps.{after}
use Rattle.promise_device.specs.FlashRun.{FlashRun}
use Rattle.promise_run.specs.JobTurns.{write_pages}
use Rattle.promise_run.specs.Promise.{making_of}
use Rattle.promise_run.specs.Turns.{Move, EachMoveSince, PostsUrgent, HasTrait, MayGoOn, TakeKept}
use Rattle.promise_run.specs.Cases.{one}
use Rattle.promise_run.specs.UrgentCases.{urgent, full, at}

-- a page of a full flash was programmed, with this answer
abbrev pub programmed : (address : ℕ) → FlashAnswer → FlashRun
programmed address answer = record full { operations = record { op = Program address (replicate 16 0); before = []; answer = answer } ∷ [] }

-- THE SEAL
-- a move that comes so many operations later
abbrev pub put_off : ℕ → Move → Move
put_off n m = record { entry = m.entry; behind = record m.behind { ops = m.behind.ops + n } }

-- behind one operation of such a flash, and a start-up behind so many, the urgent write is posted soon
abbrev pub IsInTimeBehind : FlashRun → (since : ℕ) → List Move → Type 0
IsInTimeBehind f since ms =
    EachMoveSince urgent (PostsUrgent urgent 4 (write_pages urgent) (MayGoOn (making_of urgent) f) (λ id one left. Unit {0})) since (after urgent (Found [] 0 ∷ [])) (map (put_off 1) ms)

-- KEPT PAGES
-- nothing is in hand, or an immediate job
abbrev pub at_none : State
at_none = after urgent (Found [] 0 ∷ [])

abbrev pub at_immediate : State
at_immediate = after urgent (Found [] 0 ∷ Ask 0 (Write 2 (Some one) 0) Accepted ∷ Pick 2 WriteJob (TookContent one 0) 0 ∷ [])

-- the first operation of such a flash may be made in this state, where each bank has ten pages, of which the last four are kept
abbrev pub MayBeMadeIn : FlashRun → State → Type 0
MayBeMadeIn f s = TakeKept urgent (HasTrait (making_of urgent) f TakesKept) (at 0 0) s (record { entry = None; behind = at 0 1 } ∷ [])
