-- The histories that a script may have in `play`.
use Rattle.std.specs.Prelude.{◌≡◌, ◌≤◌, ℕ, zero, suc, ◌==◌, ◌&&◌, ◌||◌, not, Bool, true, false, IsTrue, List, [], ◌∷◌, ◌++◌, length, fold, filter_map, flat_map, replicate, slice_get, option_map, is_none, is_some, unwrap_or, if◌then◌else◌, Option, Some, None}
use Rattle.std.specs.List.{list_all, enumerate_from}
use Rattle.script_walks.specs.Words.{Step, StepKind, AskStep, Store, Turn, Drain, Restart}
use Rattle.block_machine.specs.Words.{Request, Write, TookContent, TookStale, Entry, Ask, Pick, Post, Found, Configuration}
use Rattle.block_machine.specs.State.{State, jobs_of}
use Rattle.block_machine.specs.Blocks.{desc_of, is_synchronized, job_block, names_ram}
use Rattle.block_machine.specs.Next.{Next, PickJob, PickMember, next_of}
use Rattle.block_machine.specs.Steps.{step, after, after_from}

-- STORES

abbrev pub store_by : ℕ → ℕ → StepKind → Option (ℕ × List ℕ)
store_by id caller (Store block content) = if block == id then Some (caller, content) else None
store_by id caller kind = None

-- the stores of a synchronized block in order, each with its caller and its content: the n-th is store n
abbrev pub stores_of : ℕ → List Step → List (ℕ × List ℕ)
stores_of id steps = filter_map (λ x. store_by id x.caller x.kind) steps

-- the number of a caller's last store of a block, or 0 where it made none
abbrev pub last_store : ℕ → ℕ → List Step → ℕ
last_store caller id steps = fold (λ last x. if x.1.0 == caller then x.0 else last) 0 (enumerate_from 1 (stores_of id steps))

-- a write of synchronized RAM carries the number of its caller's last store before it
abbrev pub request_after : Configuration → List Step → ℕ → Request → Request
request_after c before caller (Write block None store) = Write block None (if is_synchronized (desc_of c block).ram then last_store caller block before else 0)
request_after c before caller r = r

-- the content of a store. Store 0 is what the application has before the first: the defaults, or zeros.
abbrev pub store_content : Configuration → List Step → ℕ → ℕ → Option (List ℕ)
store_content c steps id zero = Some (unwrap_or (desc_of c id).defaults (replicate (desc_of c id).length 0))
store_content c steps id (suc n) = option_map (λ x. x.1) (slice_get (stores_of id steps) n)

-- the next Pick is of a job that names synchronized RAM
abbrev pub copies_by : Configuration → Next → Bool
copies_by c (PickJob j) = names_ram j.request && is_synchronized (desc_of c (job_block j)).ram
copies_by c (PickMember sw id) = is_synchronized (desc_of c id).ram
copies_by c next = false

-- and it has taken no content before
abbrev pub copies_next : Configuration → Next → Bool
copies_next c (PickJob j) = not (is_some j.content) && copies_by c (PickJob j)
copies_next c next = copies_by c next

abbrev pub TakesStore : Configuration → List Step → Bool → Entry → Type 0
TakesStore c steps true (Pick block kind (TookContent bytes number) ops) = store_content c steps block number ≡ Some bytes
TakesStore c steps copies e = Unit {0}

-- from a state on, each content that is taken of synchronized RAM is that of the store with its number
abbrev pub TakesStores : Configuration → List Step → State → List Entry → Type 0
TakesStores c steps s [] = Unit {0}
TakesStores c steps s (e ∷ es) = TakesStore c steps (copies_by c (next_of c s)) e × TakesStores c steps (step c s e) es

-- and of `play` what a Pick copies is the last store of its block before that step
abbrev pub TakesLast : List Step → Entry → (copies : Bool) → Type 0
TakesLast before (Pick block kind (TookContent bytes number) ops) true = number ≡ length (stores_of block before)
TakesLast before e copies = Unit {0}

abbrev pub TakesLasts : Configuration → List Step → State → List Entry → Type 0
TakesLasts c before s [] = Unit {0}
TakesLasts c before s (e ∷ es) = TakesLast before e (copies_next c (next_of c s)) × TakesLasts c before (step c s e) es

-- PIECES

-- an entry that a turn of `play` may add: of the driver, but no Found, and no copy that is older than the last store
abbrev pub is_played : Entry → Bool
is_played (Ask caller r reply) = false
is_played (Pick block kind (TookStale asked got count) ops) = false
is_played (Found marks ops) = false
is_played e = true

abbrev pub begins_with_pick_or_post : List Entry → Bool
begins_with_pick_or_post (Pick block kind t ops ∷ es) = true
begins_with_pick_or_post (Post block r given refused ops ∷ es) = true
begins_with_pick_or_post es = false

-- no job and no request on all blocks is pending
abbrev pub is_at_rest : State → Bool
is_at_rest s = (length (jobs_of s) == 0) && is_none s.sweep

-- something is pending, and nothing in hand
abbrev pub is_due : State → Bool
is_due s = not s.off && is_none s.hand && not (is_at_rest s)

-- so many turns: at most so many entries, and no turn goes by that would pick or post
pub record AreTurns (s : State) (count : ℕ) (piece : List Entry) : Type 0 where
  pub played : IsTrue (list_all is_played piece)
  pub few : length piece ≤ count
  pub begins : IsTrue (not (is_due s) || begins_with_pick_or_post piece)

-- turns until nothing is pending, or the power goes off
pub record IsDrain (c : Configuration) (s : State) (piece : List Entry) : Type 0 where
  pub played : IsTrue (list_all is_played piece)
  pub ends : IsTrue (is_at_rest (after_from c s piece) || (after_from c s piece).off)

-- one start-up
abbrev pub IsRestart : List Entry → Type 0
IsRestart (Found marks ops ∷ []) = Unit {0}
IsRestart piece = ⊥

-- one request of this caller, with whatever reply
abbrev pub IsOneAsk : ℕ → Request → List Entry → Type 0
IsOneAsk caller r (Ask who request reply ∷ []) = (who ≡ caller) × (request ≡ r)
IsOneAsk caller r piece = ⊥

-- the entries that a caller's step adds in a state, after these steps
abbrev pub IsPieceBy : Configuration → List Step → State → ℕ → StepKind → List Entry → Type 0
IsPieceBy c before s caller (AskStep r) piece = IsOneAsk caller (request_after c before caller r) piece
IsPieceBy c before s caller (Turn count) piece = AreTurns s count piece
IsPieceBy c before s caller Drain piece = IsDrain c s piece
IsPieceBy c before s caller Restart piece = IsRestart piece
IsPieceBy c before s caller kind piece = piece ≡ []

-- and what is taken there was stored before, a copy as the last one
abbrev pub IsPiece : Configuration → List Step → State → Step → List Entry → Type 0
IsPiece c before s x piece = IsPieceBy c before s x.caller x.kind piece × TakesStores c before s piece × TakesLasts c before s piece

-- THE WALK

-- one piece for each step, in order, from a state after these steps on
abbrev pub IsWalkBy : Configuration → List Step → State → List Step → List (List Entry) → Type 0
IsWalkBy c before s [] [] = Unit {0}
IsWalkBy c before s (x ∷ xs) (p ∷ ps) = IsPiece c before s x p × IsWalkBy c (before ++ x ∷ []) (after_from c s p) xs ps
IsWalkBy c before s _ _ = ⊥

-- the entries of these pieces, one after another
abbrev pub joined : List (List Entry) → List Entry
joined pieces = flat_map (λ p. p) pieces

-- a start-up, and then the pieces of the steps. Where no start-up was made, the history is empty and there is no step.
abbrev pub IsWalkOf : Configuration → List Step → List (List Entry) → List Entry → Type 0
IsWalkOf c steps pieces [] = (steps ≡ []) × (pieces ≡ [])
IsWalkOf c steps pieces (Found marks ops ∷ es) = (es ≡ joined pieces) × IsWalkBy c [] (after c (Found marks ops ∷ [])) steps pieces
IsWalkOf c steps pieces (e ∷ es) = ⊥

-- a walk with the piece of one more step behind it is a walk
abbrev pub WalksGrow : Type 0
WalksGrow =
    (c : Configuration) (steps : List Step) (pieces : List (List Entry)) (e : Entry) (h : List Entry) (x : Step) (piece : List Entry)
    → IsWalkOf c steps pieces (e ∷ h) → IsPiece c steps (after c (e ∷ h)) x piece → IsWalkOf c (steps ++ x ∷ []) (pieces ++ piece ∷ []) (e ∷ h ++ piece)

-- what is taken of synchronized RAM stays stored with one entry more
abbrev pub StoresGrow : Type 0
StoresGrow =
    (c : Configuration) (steps : List Step) (s : State) (es : List Entry) (e : Entry)
    → TakesStores c steps s es → TakesStore c steps (copies_by c (next_of c (after_from c s es))) e → TakesStores c steps s (es ++ e ∷ [])
