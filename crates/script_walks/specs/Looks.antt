-- What the driver of `run` was shown of the application's stores, and which of them can have been made by then.
use Rattle.std.specs.Prelude.{◌≡◌, ◌<◌, ◌≤◌, ℕ, ◌+◌, Bool, true, List, [], ◌∷◌, ◌++◌, length, take, slice_get, Contains, Some, IsSome}
use Rattle.script_walks.specs.Words.{Step, Await}
use Rattle.block_machine.specs.Words.{TookContent, TookStale, Entry, Pick, Configuration}
use Rattle.block_machine.specs.Next.{next_of}
use Rattle.block_machine.specs.Steps.{after}
use Rattle.script_walks.specs.Walk.{store_by, store_content, stores_of, copies_next}
use Rattle.script_walks.specs.Callers.{program_of, requests_of, asks_of, WaitedFor}

-- A look of the driver at a block in the Pick that is this entry: the number of the newest store that it showed.
pub record Look : Type 0 where
  pub entry : ℕ
  pub block : ℕ
  pub shown : ℕ

-- later looks come in later Picks, or in the same one, and show no older store of their block
abbrev pub AreInOrder : List Look → Type 0
AreInOrder looks =
    (i j : ℕ) (a b : Look) → i < j → slice_get looks i ≡ Some a → slice_get looks j ≡ Some b
    → (a.entry ≤ b.entry) × (a.block ≡ b.block → a.shown ≤ b.shown)

-- A caller can have made these first steps of its program: its requests among them stand in the history, and its waits among
-- them were over in it.
pub record CanBeMade (c : Configuration) (caller : ℕ) (done : List Step) (h : List Entry) : Type 0 where
  pub requests : length (requests_of c done) ≤ length (asks_of caller h)
  pub waits : (n block : ℕ) (x : Step) → slice_get done n ≡ Some x → x.kind ≡ Await block → WaitedFor caller block (length (requests_of c (take n done))) h

-- it still can with more entries behind them
abbrev pub StepsStayMade : Type 0
StepsStayMade = (c : Configuration) (caller : ℕ) (done : List Step) (h more : List Entry) → CanBeMade c caller done h → CanBeMade c caller done (h ++ more)

-- the store of a block with this number can have been made: its caller can have made the steps before it
abbrev pub CanBeStored : Configuration → List Step → (id number : ℕ) → List Entry → Type 0
CanBeStored c steps id number h =
    (place : ℕ) (x : Step) → slice_get steps place ≡ Some x → IsSome (store_by id x.caller x.kind) → length (stores_of id (take place steps)) + 1 ≡ number
    → CanBeMade c x.caller (program_of x.caller (take place steps)) h

-- a look in the Pick behind these entries showed this store, which can have been made by then
pub record IsShown (c : Configuration) (steps : List Step) (looks : List Look) (before : List Entry) (block number : ℕ) : Type 0 where
  pub seen : Contains looks (record { entry = length before; block = block; shown = number })
  pub made : CanBeStored c steps block number before

-- A Pick that copies takes the store that a look in that very Pick showed, with its content; so none is stale.
abbrev pub CopyIsShown : Configuration → List Step → List Look → (before : List Entry) → Entry → (copies : Bool) → Type 0
CopyIsShown c steps looks before (Pick block kind (TookStale asked got count) ops) copies = ⊥
CopyIsShown c steps looks before (Pick block kind (TookContent bytes number) ops) true = IsShown c steps looks before block number × (store_content c steps block number ≡ Some bytes)
CopyIsShown c steps looks before e copies = Unit {0}

-- behind these entries each copy is shown
abbrev pub CopiesAreShown : Configuration → List Step → List Look → List Entry → List Entry → Type 0
CopiesAreShown c steps looks before [] = Unit {0}
CopiesAreShown c steps looks before (e ∷ es) =
    CopyIsShown c steps looks before e (copies_next c (next_of c (after c before))) × CopiesAreShown c steps looks (before ++ e ∷ []) es
