-- An urgent write, turn by turn.
use Rattle.std.specs.Prelude.{ℕ, ◌++◌, zero, suc, true, false, List, [], ◌∷◌, replicate, Some, None}
use Rattle.block_machine.specs.block_config.Block.{plain_block}
use Rattle.block_machine.specs.Words.{Fine, Content, Write, Accepted, WriteJob, TookContent, Ask, Pick, Wrote, Post, Found, Configuration}
use Rattle.block_machine.specs.State.{State}
use Rattle.block_machine.specs.Steps.{after}
use Rattle.promise_device.specs.FlashRun.{FlashRun}
use Rattle.promise_run.specs.JobTurns.{write_pages}
use Rattle.promise_run.specs.Promise.{making_of}
use Rattle.promise_run.specs.Turns.{Moment, Move, EachMoveSince, IsPostedSoon, PostsUrgent, MayGoOn}
use Rattle.promise_run.specs.Cases.{with_block_2, image_of, record_of, one, unchanged}

-- block 2 is an immediate one, with a record of four pages
abbrev pub urgent : Configuration
urgent = with_block_2 (record (plain_block 4) { priority = 0 })

-- the active bank has eight pages that are free, or records in all of them
abbrev pub holding : List ℕ → FlashRun
holding pages = unchanged (image_of 1 pages) (image_of 1 pages)

abbrev pub roomy : FlashRun
roomy = holding (replicate 128 255)

abbrev pub full : FlashRun
full = holding (record_of 77 one ++ record_of 77 one)

-- or just four that are free
abbrev pub half_full : FlashRun
half_full = holding (record_of 77 one ++ replicate 64 255)

-- another job is in hand
abbrev pub at_another : State
at_another = after urgent (Found [] 0 ∷ Ask 0 (Write 1 (Some one) 0) Accepted ∷ Pick 1 WriteJob (TookContent one 0) 0 ∷ [])

-- behind so many faults and operations
abbrev pub at : ℕ → ℕ → Moment
at faults ops = record { faults = faults; ops = ops; busy = false }

-- an operation more, in which a fault was counted
abbrev pub fault_at : ℕ → Move
fault_at n = record { entry = None; behind = at n n }

-- so many turns go by, at so many faults, before these
abbrev pub idle : ℕ → ℕ → List Move → List Move
idle faults zero ms = ms
idle faults (suc n) ms = record { entry = None; behind = at faults 0 } ∷ idle faults n ms

-- four turns write its record, and one posts it
abbrev pub writes : ℕ → List Move
writes faults =
    record { entry = None; behind = at faults 1 }
    ∷ record { entry = None; behind = at faults 2 }
    ∷ record { entry = None; behind = at faults 3 }
    ∷ record { entry = Some (Wrote (record { block = 2; index = 0 }) (Content one) 4); behind = at faults 4 }
    ∷ record { entry = Some (Post 2 Fine None 0 4); behind = at faults 4 } ∷ []

-- it is accepted, and a turn picks it
abbrev pub accepts : Move
accepts = record { entry = Some (Ask 0 (Write 2 (Some one) 0) Accepted); behind = at 0 0 }

abbrev pub picks : Move
picks = record { entry = Some (Pick 2 WriteJob (TookContent one 0) 0); behind = at 0 0 }

-- so it is posted with six turns, and so many more
abbrev pub posted_with : ℕ → ℕ → List Move
posted_with faults more = accepts ∷ picks ∷ idle faults more (writes faults)

-- over such a flash it is posted soon, from a state on
abbrev pub IsInTimeFrom : FlashRun → State → List Move → Type 0
IsInTimeFrom f s ms = EachMoveSince urgent (PostsUrgent urgent 4 (write_pages urgent) (MayGoOn (making_of urgent) f) (λ id one left. Unit {0})) 0 s ms

abbrev pub IsInTime : FlashRun → List Move → Type 0
IsInTime f ms = IsInTimeFrom f (after urgent (Found [] 0 ∷ [])) ms

-- beside callers it has a turn more, since it may be accepted within one
abbrev pub IsInTimeBeside : FlashRun → List Move → Type 0
IsInTimeBeside f ms = EachMoveSince urgent (PostsUrgent urgent 5 (write_pages urgent) (MayGoOn (making_of urgent) f) (λ id one left. Unit {0})) 0 (after urgent (Found [] 0 ∷ [])) ms

-- so many jobs of another block are posted before these
abbrev pub others : ℕ → List Move → List Move
others zero ms = ms
others (suc n) ms = record { entry = Some (Post 1 Fine None 0 0); behind = at 0 0 } ∷ others n ms

-- behind the Posts of so many other jobs so many turns post it, of so many
abbrev pub IsBehindOthers : (posts more turns : ℕ) → Type 0
IsBehindOthers posts more turns = IsPostedSoon (λ one left. Unit {0}) true 2 turns 0 (others posts (picks ∷ idle 0 more (writes 0)))
