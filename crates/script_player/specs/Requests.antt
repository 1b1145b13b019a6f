-- Requests of a UDS gateway that are made on a stack, one after another.
use Rattle.std.specs.Prelude.{◌≡◌, ◌≤◌, ℕ, ◌+◌, ◌*◌, not, Bool, true, false, IsTrue, List, [], ◌∷◌, ◌++◌, length, map, replicate, Result, Ok, Err}
use Rattle.std.specs.List.{list_all}
use Rattle.uds_gateway.specs.block_machine.Words.{Request, Entry, Configuration}
use Rattle.uds_gateway.specs.block_machine.State.{State}
use Rattle.uds_gateway.specs.block_machine.Reply.{fits}
use Rattle.uds_gateway.specs.declared.stop.ServeStop.{ServeStop}
use Rattle.uds_gateway.specs.declared.stop.ServeStop.TheVariants.{Off, NoRoom, Memory}
use Rattle.uds_gateway.specs.Services.{asked_by}
use Rattle.uds_gateway.specs.Jobs.{HasNone}
use Rattle.uds_gateway.specs.Served.{IsServedBy, AreServed, IsOffBy}
use Rattle.uds_gateway.specs.script_walks.Words.{Step, StepKind, AskStep, Turn}
use Rattle.uds_gateway.specs.script_walks.Walk.{joined}
use Rattle.script_player.specs.Told.{StackTold, state_of}
use Rattle.script_player.specs.Made.{HasWalked}
use Rattle.uds_gateway.specs.nvm_moves.Seen.{Seen}
use Rattle.script_player.specs.Walking.{AreUnderWay}

-- THE STEPS

-- a request is asked, or turns are made
abbrev pub is_of_request : StepKind → Bool
is_of_request (AskStep r) = true
is_of_request (Turn count) = true
is_of_request kind = false

abbrev pub AreOfRequests : List Step → Type 0
AreOfRequests steps = IsTrue (list_all (λ x. is_of_request x.kind) steps)

-- no content was stored: the table of last stores has none
abbrev pub no_stores : Configuration → List ℕ
no_stores c = replicate (16 * (length c.blocks + 1)) 0

-- such steps are made
pub record IsServing (p q : Seen) (old now : StackTold) : Type 0 where
  pub made : List Step
  pub only : AreOfRequests made
  pub way : AreUnderWay p q made (no_stores old.configuration) old now

-- ONE REQUEST

-- more of them are made, which added these entries
pub record ServesMore (p q : Seen) (piece : List Entry) (old mid new : StackTold) : Type 0 where
  pub serving : IsServing p q old new
  pub adds : new.entries ≡ mid.entries ++ piece

-- no more was made, and nothing added
pub record ServesNoMore (p q : Seen) (old mid new : StackTold) : Type 0 where
  pub made : List Step
  pub only : AreOfRequests made
  pub walked : HasWalked p q made old new
  pub adds : new.entries ≡ mid.entries
  pub configuration : new.configuration ≡ mid.configuration
  pub cap : new.cap ≡ mid.cap
  pub counted : mid.faults ≤ new.faults

-- What a request of the gateway comes to: it asks for nothing, or it is refused or posted, and none is pending; or the power went off; its
-- Ask doesn't fit; or memory was wanting before it.
abbrev pub EndsRequest : Configuration → List ℕ → Seen → Seen → Result (Unit {0}) ServeStop → (old mid new : StackTold) → Type 0
EndsRequest c request p q (Ok done) old mid new = (piece : List Entry) × ServesMore p q piece old mid new × IsServedBy c request piece × HasNone (state_of new)
EndsRequest c request p q (Err Off) old mid new = (piece : List Entry) × ServesMore p q piece old mid new × IsOffBy c request piece
EndsRequest c request p q (Err NoRoom) old mid new =
    ServesNoMore p q old mid new × ((asked : Request) × (asked_by c request ≡ Ok asked) × IsTrue (not (fits mid.configuration mid.cap (state_of mid) 1)))
EndsRequest c request p q (Err Memory) old mid new = ServesNoMore p q old mid new

-- ALL OF THEM

-- these were answered, each with its piece, and none is pending
pub record AreServedSoFar (p q : Seen) (requests : List (List ℕ)) (numbers : List ℕ) (old now : StackTold) : Type 0 where
  pub serving : IsServing p q old now
  pub pieces : List (List Entry)
  pub more : now.entries ≡ old.entries ++ joined pieces
  pub counts : numbers ≡ map length pieces
  pub served : AreServed old.configuration requests pieces
  pub none : HasNone (state_of now)

-- why these requests are left, in the state behind all entries, with the entries of the one that was under way: none is left;
-- the power went off in the job of the first; its Ask has no room; or memory was wanting
abbrev pub LeavesRequests : Configuration → (cap : ℕ) → State → Result (Unit {0}) ServeStop → (left : List (List ℕ)) → (rest : List Entry) → Type 0
LeavesRequests c cap s (Ok done) left rest = (left ≡ []) × (rest ≡ [])
LeavesRequests c cap s (Err Off) (request ∷ left) rest = IsOffBy c request rest
LeavesRequests c cap s (Err NoRoom) (request ∷ left) rest = ((asked : Request) × (asked_by c request ≡ Ok asked) × IsTrue (not (fits c cap s 1))) × (rest ≡ [])
LeavesRequests c cap s (Err Memory) left rest = rest ≡ []
LeavesRequests c cap s end left rest = ⊥

-- The first requests were answered in order, each by its own piece of these entries, and the others left for this reason.
pub record ServesRequests (c : Configuration) (cap : ℕ) (s : State) (requests : List (List ℕ)) (end : Result (Unit {0}) ServeStop) (more : List Entry) : Type 0 where
  pub first : List (List ℕ)
  pub left : List (List ℕ)
  pub order : requests ≡ first ++ left
  pub pieces : List (List Entry)
  pub rest : List Entry
  pub parts : more ≡ joined pieces ++ rest
  pub served : AreServed c first pieces
  pub leaves : LeavesRequests c cap s end left rest

-- the steps that were made for it, with the number of entries of each piece
pub record HasServed (p q : Seen) (requests : List (List ℕ)) (numbers : List ℕ) (end : Result (Unit {0}) ServeStop) (old new : StackTold) : Type 0 where
  pub made : List Step
  pub only : AreOfRequests made
  pub walked : HasWalked p q made old new
  pub more : List Entry
  pub adds : new.entries ≡ old.entries ++ more
  pub serves : ServesRequests old.configuration old.cap (state_of new) requests end more
  pub counts : numbers ≡ map length serves.pieces
