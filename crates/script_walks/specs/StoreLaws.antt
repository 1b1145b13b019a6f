-- What steps keep of a walk.
use Rattle.std.specs.Prelude.{◌≡◌, ◌<◌, ◌≤◌, ◌+◌, ◌==◌, ◌&&◌, ℕ, true, false, Bool, IsTrue, List, [], ◌∷◌, ◌++◌, length, map, slice_set, if◌then◌else◌}
use Rattle.std.specs.List.{list_all}
use Rattle.block_machine.specs.Words.{Instance, Mark, Request, Reply, Entry, Ask, Found, Configuration}
use Rattle.block_machine.specs.State.{State}
use Rattle.block_machine.specs.Steps.{step, after_from}
use Rattle.ram_blocks.specs.Plain.{store_of, plain_blocks_of}
use Rattle.script_walks.specs.Words.{Step, StepKind, AskStep, Store}
use Rattle.script_walks.specs.Walk.{is_played, request_after, stores_of, last_store, TakesStores, TakesLasts, AreTurns}
use Rattle.nvm_script.specs.Played.{CanBePlayed}
use Rattle.script_walks.specs.Stores.{AreNewest, JobsTookStored}
use Rattle.script_walks.specs.Turn.{IsTurn}

-- a turn is played, it takes what was stored before, a copy as the last one, and the jobs still took nothing else
pub record KeepsStored (c : Configuration) (before : List Step) (s : State) (es : List Entry) : Type 0 where
  pub played : IsTrue (list_all is_played es)
  pub stores : TakesStores c before s es
  pub last : TakesLasts c before s es
  pub jobs : JobsTookStored c before (after_from c s es)

abbrev pub TurnsKeepStored : Type 0
TurnsKeepStored =
    (c : Configuration) (before : List Step) (s : State) (stores : List (ℕ × List ℕ)) (es : List Entry) → AreNewest c before stores → JobsTookStored c before s
    → IsTurn c s stores es → KeepsStored c before s es

-- entries that keep it, and more that do
abbrev pub KeepingGoesOn : Type 0
KeepingGoesOn =
    (c : Configuration) (before : List Step) (s : State) (es more : List Entry) → KeepsStored c before s es → KeepsStored c before (after_from c s es) more
    → KeepsStored c before s (es ++ more)

-- one turn more
abbrev pub TurnsGrow : Type 0
TurnsGrow =
    (c : Configuration) (s : State) (stores : List (ℕ × List ℕ)) (count : ℕ) (es more : List Entry) → AreTurns s count es → 0 < count
    → IsTurn c (after_from c s es) stores more → IsTrue (list_all is_played more) → AreTurns s (count + 1) (es ++ more)

-- a request as a step asks it
abbrev pub AsksKeepStored : Type 0
AsksKeepStored =
    (c : Configuration) (before : List Step) (s : State) (caller : ℕ) (r : Request) (reply : Reply) → CanBePlayed c (AskStep r) → JobsTookStored c before s
    → JobsTookStored c before (step c s (Ask caller (request_after c before caller r) reply))

-- a start-up leaves no job
abbrev pub StartsKeepStored : Type 0
StartsKeepStored = (c : Configuration) (before : List Step) (s : State) (marks : List (Instance × Mark)) (ops : ℕ) → JobsTookStored c before (step c s (Found marks ops))

-- a step more
abbrev pub StepsKeepStored : Type 0
StepsKeepStored = (c : Configuration) (before : List Step) (s : State) (x : Step) → JobsTookStored c before s → JobsTookStored c (before ++ x ∷ []) s

-- THE STORES

-- before the first one
abbrev pub FirstAreNewest : Type 0
FirstAreNewest = (c : Configuration) → AreNewest c [] (map store_of (plain_blocks_of c))

-- a step that stores nothing
abbrev pub is_store : StepKind → Bool
is_store (Store block content) = true
is_store kind = false

abbrev pub OthersKeepNewest : Type 0
OthersKeepNewest = (c : Configuration) (before : List Step) (stores : List (ℕ × List ℕ)) (x : Step) → is_store x.kind ≡ false → AreNewest c before stores → AreNewest c (before ++ x ∷ []) stores

-- a store
abbrev pub StoresAreNewest : Type 0
StoresAreNewest =
    (c : Configuration) (before : List Step) (stores : List (ℕ × List ℕ)) (line caller block : ℕ) (content : List ℕ) → block < length stores
    → AreNewest c before stores
    → AreNewest c (before ++ record { line = line; caller = caller; kind = Store block content } ∷ []) (slice_set stores block (length (stores_of block before) + 1, content))

-- no more than there are steps
abbrev pub StoresAreFew : Type 0
StoresAreFew = (id : ℕ) (before : List Step) → length (stores_of id before) ≤ length before

-- the number of a caller's last store
abbrev pub LastStoresGrow : Type 0
LastStoresGrow =
    (caller id : ℕ) (before : List Step)
    → ((x : Step) → is_store x.kind ≡ false → last_store caller id (before ++ x ∷ []) ≡ last_store caller id before)
    × ((line who block : ℕ) (content : List ℕ) → last_store caller id (before ++ record { line = line; caller = who; kind = Store block content } ∷ [])
    ≡ (if (block == id) && (who == caller) then length (stores_of id before) + 1 else last_store caller id before))
