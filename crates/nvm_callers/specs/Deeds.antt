-- What a caller knows of what it did.
use Rattle.std.specs.Prelude.{◌≡◌, ◌≤◌, ◌<◌, ℕ, ◌+◌, List, [], ◌∷◌, ◌++◌, length, take, drop}
use Rattle.driver_moves.specs.block_machine.Words.{Request, Reply, Entry, Ask, Configuration}
use Rattle.driver_moves.specs.block_laws.Consistent.{Each, Ascend}
use Rattle.turn_gate.specs.Entries.{Note, StartsWith, AllAgree}
use Rattle.driver_moves.specs.nvm_moves.script_walks.Callers.{WaitedFor, asks_of}
use Rattle.driver_moves.specs.nvm_shared.StatusWords.{gives}
use Rattle.driver_moves.specs.nvm_shared.Numbers.{AreAt, AreAll}
use Rattle.script_callers.specs.declared.deed.Deed.{Deed}
use Rattle.script_callers.specs.declared.deed.Deed.TheVariants.{Ask as AskDeed, Store as StoreDeed, Await}
use Rattle.script_callers.specs.Deeds.{requests_in}
use Rattle.nvm_callers.specs.Waits.{Waited, EndsWait}

-- what holds of each wait of these, by its block and by how many requests its caller made before it, which made k before these
abbrev pub EachWait : (ℕ → ℕ → Type 0) → ℕ → List Deed → Type 0
EachWait P k [] = Unit {0}
EachWait P k (AskDeed line r ∷ ds) = EachWait P (k + 1) ds
EachWait P k (StoreDeed line block number content ∷ ds) = EachWait P k ds
EachWait P k (Await line block ∷ ds) = P block k × EachWait P k ds

module _ (c : Configuration) (cap : ℕ) (own : List ℕ) (seen : List Entry) (notes : List Note) where
  -- a wait was over behind the caller's first k requests, and before its later ones
  pub record HasWaited (block k : ℕ) : Type 0 where
    pub end : ℕ
    pub asked : Each (λ n. n < end) (take k own)
    pub later : Each (λ n. end ≤ n) (drop k own)
    pub waited : Waited c cap block end seen notes

  -- so was each wait of these
  abbrev pub HasWaitedAll : List Deed → Type 0
  HasWaitedAll deeds = EachWait HasWaited 0 deeds

  -- The caller's own entries are these requests, in order, and it awaited between them what it was to await.
  pub record HasDone (caller : ℕ) (deeds : List Deed) : Type 0 where
    pub ascend : Ascend own
    pub at : AreAt seen caller own (requests_in deeds)
    pub waits : HasWaitedAll deeds

-- at first it did nothing
abbrev pub NoneIsDone : Type 0
NoneIsDone = (c : Configuration) (cap : ℕ) (seen : List Entry) (notes : List Note) (caller : ℕ) → HasDone c cap [] seen notes caller []

-- one request more
abbrev pub AsksAreDone : Type 0
AsksAreDone =
    (c : Configuration) (cap : ℕ) (own : List ℕ) (seen before : List Entry) (notes : List Note) (caller : ℕ) (deeds : List Deed) (line : ℕ) (r : Request) (reply : Reply)
    → HasDone c cap own seen notes caller deeds → StartsWith before seen → AllAgree gives before notes
    → HasDone c cap (own ++ length before ∷ []) (before ++ Ask caller r reply ∷ []) notes caller (deeds ++ AskDeed line r ∷ [])

-- one store more
abbrev pub StoresAreDone : Type 0
StoresAreDone =
    (c : Configuration) (cap : ℕ) (own : List ℕ) (seen : List Entry) (notes : List Note) (caller : ℕ) (deeds : List Deed) (line block number : ℕ) (content : List ℕ)
    → HasDone c cap own seen notes caller deeds → HasDone c cap own seen notes caller (deeds ++ StoreDeed line block number content ∷ [])

-- one wait more
abbrev pub WaitsAreDone : Type 0
WaitsAreDone =
    (c : Configuration) (cap : ℕ) (own : List ℕ) (seen : List Entry) (notes more : List Note) (caller : ℕ) (deeds : List Deed) (line block : ℕ)
    → HasDone c cap own seen notes caller deeds → EndsWait c cap block seen (notes ++ more)
    → HasDone c cap own seen (notes ++ more) caller (deeds ++ Await line block ∷ [])

-- what was done stays done, whatever is seen and told later
abbrev pub DeedsLast : Type 0
DeedsLast =
    (c : Configuration) (cap : ℕ) (own : List ℕ) (seen seen_new : List Entry) (notes more : List Note) (caller : ℕ) (deeds : List Deed)
    → HasDone c cap own seen notes caller deeds → StartsWith seen_new seen → HasDone c cap own seen_new (notes ++ more) caller deeds

-- in a history each wait of these was over in time
abbrev pub WereOver : (caller : ℕ) → List Entry → List Deed → Type 0
WereOver caller h deeds = EachWait (λ block k. WaitedFor caller block k h) 0 deeds

-- a history tells what a caller did
pub record Shows (caller : ℕ) (deeds : List Deed) (h : List Entry) : Type 0 where
  pub asks : asks_of caller h ≡ requests_in deeds
  pub waits : WereOver caller h deeds

-- Each history tells it that begins with all that the caller saw, agrees with all that it was told, and has no other request
-- of it.
abbrev pub DeedsHold : Type 0
DeedsHold =
    (c : Configuration) (cap : ℕ) (own : List ℕ) (seen : List Entry) (notes : List Note) (caller : ℕ) (deeds : List Deed) (h : List Entry)
    → HasDone c cap own seen notes caller deeds → StartsWith h seen → AllAgree gives h notes → AreAll h caller own
    → Shows caller deeds h
