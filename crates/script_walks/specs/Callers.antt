-- The order of each caller's requests in `run`.
use Rattle.std.specs.Prelude.{◌≡◌, ◌<◌, ◌≤◌, ℕ, ◌==◌, ◌||◌, not, Bool, true, false, IsTrue, List, [], ◌∷◌, ◌++◌, length, take, filter, slice_get, unwrap_or, option_map, if◌then◌else◌, Option, Some, None}
use Rattle.std.specs.Option.{option_map_or}
use Rattle.script_walks.specs.Words.{Step, StepKind, AskStep, Await}
use Rattle.block_machine.specs.Words.{ReqResult, Fine, Pending, Request, ReadAll, WriteAll, Accepted, Entry, Ask, Pick, Post, Off, Found, Configuration}
use Rattle.block_machine.specs.Blocks.{asked_block, job_kind, is_pending}
use Rattle.script_walks.specs.Walk.{request_after}

-- the program of a caller: its steps of a script
abbrev pub program_of : ℕ → List Step → List Step
program_of caller steps = filter (λ x. x.caller == caller) steps

abbrev pub request_of_step : Configuration → List Step → ℕ → StepKind → List Request
request_of_step c before caller (AskStep r) = request_after c before caller r ∷ []
request_of_step c before caller kind = []

-- the requests of a program in order, after these steps of it
abbrev pub requests_from : Configuration → List Step → List Step → List Request
requests_from c before [] = []
requests_from c before (x ∷ xs) = request_of_step c before x.caller x.kind ++ requests_from c (before ++ x ∷ []) xs

abbrev pub requests_of : Configuration → List Step → List Request
requests_of c steps = requests_from c [] steps

-- what a caller asked for in a history
abbrev pub asks_of : ℕ → List Entry → List Request
asks_of caller [] = []
asks_of caller (Ask who r reply ∷ es) = if who == caller then r ∷ asks_of caller es else asks_of caller es
asks_of caller (e ∷ es) = asks_of caller es

-- STATUSES

-- the block that is PENDING once this request is accepted; 0 stands for all
abbrev pub pending_block : Request → Option ℕ
pending_block ReadAll = Some 0
pending_block WriteAll = Some 0
pending_block r = option_map (λ kind. asked_block r) (job_kind r)

-- the status that an entry tells of a block, if it tells one
abbrev pub tells_status : ℕ → Entry → Option ReqResult
tells_status id (Ask caller r Accepted) = if option_map_or (λ block. block == id) (pending_block r) false then Some Pending else None
tells_status id (Pick block kind t ops) = if block == id then Some Pending else None
tells_status id (Post block r given refused ops) = if block == id then Some r else None
tells_status id (Found marks ops) = Some Fine
tells_status id e = None

-- whether the power is off, if it tells that
abbrev pub tells_off : Entry → Option Bool
tells_off (Off ops) = Some true
tells_off (Found marks ops) = Some false
tells_off e = None

-- what entries told last
abbrev pub told_last : {A : Type 0} → (Entry → Option A) → A → List Entry → A
told_last tells last [] = last
told_last tells last (e ∷ es) = told_last tells (unwrap_or (tells e) last) es

-- WAITS

-- by what these entries tell the block isn't pending any more, or the power is off
abbrev pub is_over : ℕ → List Entry → Bool
is_over block h = not (is_pending (told_last (tells_status block) Fine h)) || told_last tells_off false h

-- this caller's first k requests stand in a beginning of the history, and no later one; and there the wait was over
pub record WaitedFor (caller block k : ℕ) (h : List Entry) : Type 0 where
  pub entries : ℕ
  pub some : 0 < entries
  pub within : entries ≤ length h
  pub asked : length (asks_of caller (take entries h)) ≡ k
  pub over : IsTrue (is_over block (take entries h))

-- a caller asks for what its program says, in that order, as far as it came; behind an `await` only once the wait was over
pub record IsInOrder (c : Configuration) (caller : ℕ) (program : List Step) (h : List Entry) : Type 0 where
  pub requests : asks_of caller h ≡ take (length (asks_of caller h)) (requests_of c program)
  pub awaits : (n block : ℕ) (x : Step) → slice_get program n ≡ Some x → x.kind ≡ Await block → length (requests_of c (take n program)) < length (asks_of caller h)
      → WaitedFor caller block (length (requests_of c (take n program))) h
