-- The steps that were made.
use Rattle.std.specs.Prelude.{◌≡◌, ◌≤◌, ◌<◌, ◌+◌, ◌^◌, ℕ, true, false, List, [], ◌∷◌, ◌++◌, length, map, take, sum_by, Option, None}
use Rattle.uds_gateway.specs.nv_base.Count.{Rose, WereCounted}
use Rattle.uds_gateway.specs.nv_base.Entry.{ops_behind}
use Rattle.uds_gateway.specs.block_machine.Words.{Instance, Mark, Request, Reply, Entry, Ask, Found}
use Rattle.uds_gateway.specs.block_machine.Steps.{after}
use Rattle.uds_gateway.specs.ram_blocks.Plain.{store_of, plain_blocks_of}
use Rattle.uds_gateway.specs.script_walks.Words.{Step, StepKind, Cut, Restart}
use Rattle.uds_gateway.specs.script_walks.Walk.{request_after, IsPiece, IsWalkOf}
use Rattle.uds_gateway.specs.promise_run.Run.{Played, EachPiece, HasNoRoom, HadRoom, DueCut, Made, Added, CutsExplain}
use Rattle.uds_gateway.specs.promise_run.Refusals.{AreAsAsked, RefusesAsAsked, asked_by}
use Rattle.uds_gateway.specs.promise_run.InRoom.{is_drain}
use Rattle.uds_gateway.specs.promise_run.Turns.{Moment, Move, entries_of, moment_behind, AreMovesOf, HasMoves, ClosesAtDrains, FindsWork, FindWorkAtDrains, all_moves, CutsCome}
use Rattle.script_player.specs.declared.steps.StepFault.{StepFault}
use Rattle.script_player.specs.declared.steps.StepFault.TheVariants.{Flash, HistoryFull, Memory}
use Rattle.script_player.specs.Told.{StackTold, state_of, moment_of, IsNoEarlier, AreCut, TellsOff}
use Rattle.script_player.specs.Calls.{AddsAsk}
use Rattle.script_player.specs.Kept.{IsKept, StaysCalm}
use Rattle.script_player.specs.Coming.{PlansCuts}
use Rattle.uds_gateway.specs.nvm_moves.Seen.{Seen}
use Rattle.uds_gateway.specs.nvm_moves.Moved.{MovesBy}
use Rattle.script_player.specs.Paying.{CameBy}
use Rattle.script_player.specs.Table.{HasLastStores}

-- THE CAUSES OF A STEP

-- the power cuts that it plans
abbrev pub cuts_in : StepKind → ℕ
cuts_in (Cut nth keep) = 1
cuts_in kind = 0

abbrev pub cuts_of : List Step → ℕ
cuts_of steps = sum_by (λ x. cuts_in x.kind) steps

-- What a step adds is explained: its copies are refused exactly where they are to be, with those that the step asked for, and its
-- Offs are planned cuts or others, where these steps' plan stood before.
pub record IsExplained (kind : StepKind) (piece : List Entry) (old new : StackTold) : Type 0 where
  pub refusals : (id : ℕ) → AreAsAsked old.configuration id (state_of old) (asked_by id kind (old.causes.to_refuse id)) piece (new.causes.to_refuse id)
  pub takes : old.causes.takes ≤ new.causes.takes + cuts_in kind
  pub offs : (plan : Option DueCut) (ops : ℕ) → cuts_in kind ≤ old.causes.takes → ops ≤ ops_behind 0 old.entries → IsNoEarlier plan old.causes.plan
      → AreCut plan ops (Made kind ∷ map Added piece) old new

-- A STEP

-- the step is made: it added its piece
pub record IsMade (p q : Seen) (before : List Step) (x : Step) (old new : StackTold) : Type 0 where
  pub piece : List Entry
  pub configuration : new.configuration ≡ old.configuration
  pub cap : new.cap ≡ old.cap
  pub entries : new.entries ≡ old.entries ++ piece
  pub counted : old.faults ≤ new.faults
  pub is : IsPiece old.configuration before (state_of old) x piece
  pub room : ¬ HasNoRoom old.configuration old.cap (state_of old) x.kind
  pub explained : IsExplained x.kind piece old new
  pub closes : StaysCalm old new → is_drain x.kind ≡ true → new.busy ≡ false
  -- its moves, whose entries are the piece
  pub moves : List Move
  pub moved : AreMovesOf x.kind (moment_of old) moves
  pub finds : is_drain x.kind ≡ true → FindsWork old.configuration (moment_of old) (state_of old) moves
  pub tell : piece ≡ entries_of moves
  pub behind : moment_behind (moment_of old) moves ≡ moment_of new
  pub by_law : MovesBy false moves p q
  -- no planned cut is missed
  pub one : new.one ≡ old.one
  pub cuts : cuts_in x.kind ≤ old.causes.takes → PlansCuts x.kind moves old new
  pub kept : IsKept (before ++ x ∷ []) new

-- a request was entered as the step asks it
abbrev pub IsAsked : ℕ → Request → List ℕ → StackTold → StackTold → Type 0
IsAsked caller r table old new =
    (before : List Step) → HasLastStores old.configuration before table
    → (reply : Reply) × AddsAsk (Ask caller (request_after old.configuration before caller r) reply) old new

-- Whatever steps came before, so few that each has a line: this one is made, and the table goes on.
abbrev pub Makes : Seen → Seen → Step → List ℕ → List ℕ → StackTold → StackTold → Type 0
Makes p q x table table' old new =
    (before : List Step) → length before < 2 ^ 32 → IsKept before old → HasLastStores old.configuration before table
    → IsMade p q before x old new × HasLastStores old.configuration (before ++ x ∷ []) table'

-- why the step isn't made; it added nothing
abbrev pub Stops : StepFault → StepKind → StackTold → StackTold → Type 0
Stops Flash kind old new = (kind ≡ Restart) × Rose old.faults new.faults × ¬ HasNoRoom old.configuration old.cap (state_of old) kind
Stops HistoryFull kind old new = HasNoRoom old.configuration old.cap (state_of old) kind
Stops Memory kind old new = Unit {0}

pub record IsLeft (fault : StepFault) (x : Step) (old new : StackTold) : Type 0 where
  pub configuration : new.configuration ≡ old.configuration
  pub cap : new.cap ≡ old.cap
  pub entries : new.entries ≡ old.entries
  pub counted : old.faults ≤ new.faults
  pub operations : new.ops ≡ old.ops
  pub cuts : WereCounted 0 old.causes.unplanned new.causes.unplanned
  pub came : new.causes.came ≡ old.causes.came
  pub power : TellsOff old → TellsOff new
  pub why : Stops fault x.kind old new

-- ALL STEPS

-- a stack behind its first start-up, whose application stored nothing yet and is to refuse no copy
pub record IsFresh (t : StackTold) : Type 0 where
  pub ready : t.ready ≡ true
  pub marks : List (Instance × Mark)
  pub ops : ℕ
  pub entries : t.entries ≡ Found marks ops ∷ []
  pub stores : t.stores ≡ map store_of (plain_blocks_of t.configuration)
  pub none_to_refuse : (id : ℕ) → t.causes.to_refuse id ≡ 0
  pub none_planned : t.causes.plan ≡ None

-- The history went on, and is a walk of these steps. Its copies are refused exactly as they ask, and each Off is a cut
-- that they planned, or a cut was counted.
pub record HasWalked (p q : Seen) (made : List Step) (old new : StackTold) : Type 0 where
  pub more : List Entry
  pub grows : new.entries ≡ old.entries ++ more
  pub pieces : List (List Entry)
  pub walk : IsWalkOf old.configuration made pieces new.entries
  pub room : EachPiece old.configuration (HadRoom old.configuration old.cap) (after old.configuration (take 1 new.entries)) made pieces
  pub refusals : (id : ℕ) → RefusesAsAsked old.configuration (Played made pieces []) new.entries id
  pub came : List ℕ
  pub more_came : new.causes.came ≡ old.causes.came ++ came
  pub off : CutsExplain (Played made pieces []) new.entries came old.causes.unplanned new.causes.unplanned
  pub power : TellsOff old → TellsOff new
  -- its turns, one by one, from the first moment on
  pub last : Moment
  pub moves : HasMoves made pieces (moment_of old) last
  pub tell : new.entries ≡ old.entries ++ entries_of (all_moves moves.moves)
  -- by the one law of a move
  pub by_law : CameBy p q (all_moves moves.moves)
  -- each turn of a drain but its last one finds work; where nothing failed a drain leaves nothing open
  pub finds : FindWorkAtDrains old.configuration (moment_of old) (state_of old) made moves.moves
  pub closes : StaysCalm old new → ClosesAtDrains (moment_of old) made moves.moves
  -- and each cut that they plan comes, over a device of one part
  pub cuts : old.one ≡ true → CutsCome old.configuration None (moment_of old) (state_of old) made moves.moves

-- why these steps were left behind this moment, in the state after the whole history: a start-up failed by a fault of its own
abbrev pub WereLeft : StepFault → List Step → Moment → StackTold → StackTold → Type 0
WereLeft Flash (x ∷ xs) last old new = (x.kind ≡ Restart) × Rose last.faults new.faults × ¬ HasNoRoom old.configuration old.cap (after old.configuration new.entries) x.kind
WereLeft HistoryFull (x ∷ xs) last old new = HasNoRoom old.configuration old.cap (after old.configuration new.entries) x.kind
WereLeft Memory xs last old new = Unit {0}
WereLeft fault xs last old new = ⊥

-- the first of these steps were made, and the others left, with the reason
pub record WasBroken (p q : Seen) (fault : StepFault) (steps : List Step) (old new : StackTold) : Type 0 where
  pub made : List Step
  pub left : List Step
  pub order : steps ≡ made ++ left
  pub walked : HasWalked p q made old new
  pub why : WereLeft fault left walked.last old new
