-- Runs on a small flash in which copies are refused, as `refuse` steps ask or not.
use Rattle.std.specs.Prelude.{ℕ, Bool, true, List, [], ◌∷◌, ◌++◌, Option, Some, None}
use Rattle.block_machine.specs.block_config.Block.{plain_block}
use Rattle.block_machine.specs.Words.{ReqResult, NotOk, Request, Write, Restore, Accepted, JobKind, WriteJob, RestoreJob, Taken, TookNothing, Entry, Ask, Pick, Post, Found, Sync, Configuration}
use Rattle.script_walks.specs.Words.{StepKind, AskStep, Turn, Refuse, Restart}
use Rattle.promise_run.specs.Run.{Ran}
use Rattle.promise_run.specs.Refusals.{RefusesAsAsked}
use Rattle.promise_run.specs.Cases.{with_block_2, one, plays, quiet}

-- block 2 is synchronized, and each copy of it is tried twice
abbrev pub tried_twice : Configuration
tried_twice = with_block_2 (record (plain_block 4) { ram = Sync; repeats = 1; defaults = Some one })

-- where each of these steps adds its entries, the copies of block 2 are refused as they ask
abbrev pub RefuseSo : List (StepKind × List Entry) → Type 0
RefuseSo steps = let r = plays steps quiet.flash in RefusesAsAsked tried_twice r.course r.history 2

-- a request on block 2 is accepted, and its job comes in hand in the next turn
abbrev pub picked : Request → JobKind → Taken → List (StepKind × List Entry)
picked r kind t = (AskStep r, Ask 0 r Accepted ∷ []) ∷ (Turn 1, Pick 2 kind t 0 ∷ []) ∷ []

-- so many copies of a block are to be refused, and a write comes to this
abbrev pub WriteComes : (block count : ℕ) → (content : Option (List ℕ)) → Taken → Type 0
WriteComes block count content t = RefuseSo ((Refuse block count, []) ∷ picked (Write 2 content 0) WriteJob t)

-- a start-up lies between
abbrev pub LaterComes : (count : ℕ) → Taken → Type 0
LaterComes count t = RefuseSo ((Refuse 2 count, []) ∷ (Restart, Found [] 0 ∷ []) ∷ picked (Write 2 None 0) WriteJob t)

-- so many copies are to be refused, and a restore to RAM, or to the caller's own buffer, gives this
abbrev pub RestoreComes : (count : ℕ) → (ram : Bool) → ReqResult → Option (List ℕ) → (refused : ℕ) → Type 0
RestoreComes count ram r given refused =
    RefuseSo ((Refuse 2 count, []) ∷ picked (Restore 2 ram) RestoreJob TookNothing ++ (Turn 1, Post 2 r given refused 0 ∷ []) ∷ [])

-- so many copies are to be refused, and a restore to RAM whose copies were refused goes before a write that comes to this
abbrev pub SecondComes : (count : ℕ) → Taken → Type 0
SecondComes count t =
    RefuseSo ((Refuse 2 count, []) ∷ picked (Restore 2 true) RestoreJob TookNothing ++ (Turn 1, Post 2 NotOk None 2 0 ∷ []) ∷ picked (Write 2 None 0) WriteJob t)

-- beside callers a write comes to this
abbrev pub CallersGet : Taken → Type 0
CallersGet t = RefusesAsAsked tried_twice (Ran [] []) (Found [] 0 ∷ Ask 1 (Write 2 None 0) Accepted ∷ Pick 2 WriteJob t 0 ∷ []) 2
