-- The steps that are made so far.
use Rattle.std.specs.Prelude.{◌≡◌, ◌≤◌, ◌+◌, ℕ, true, false, List, [], ◌∷◌, ◌++◌, length, Option, None}
use Rattle.uds_gateway.specs.block_machine.Words.{Instance, Mark, Entry, Found}
use Rattle.uds_gateway.specs.block_machine.Steps.{after}
use Rattle.uds_gateway.specs.script_walks.Words.{Step}
use Rattle.uds_gateway.specs.script_walks.Walk.{IsWalkOf, joined}
use Rattle.uds_gateway.specs.promise_run.Run.{EachPiece, HadRoom, events_of}
use Rattle.uds_gateway.specs.promise_run.Refusals.{StepsRefuse}
use Rattle.uds_gateway.specs.promise_run.Turns.{HasMoves, ClosesAtDrains, FindWorkAtDrains, all_moves, Moment, Move, Planned, planned_by, entries_of, moment_behind, CutsCome}
use Rattle.script_player.specs.Coming.{IsPending}
use Rattle.script_player.specs.Told.{StackTold, state_of, moment_of, AreCut}
use Rattle.script_player.specs.Kept.{IsKept, StaysCalm}
use Rattle.script_player.specs.Made.{cuts_of}
use Rattle.uds_gateway.specs.nvm_moves.Seen.{Seen}
use Rattle.uds_gateway.specs.nvm_moves.Moved.{MovesBy}
use Rattle.script_player.specs.Paying.{IsSeen}
use Rattle.script_player.specs.Table.{HasLastStores}

-- the power cut that steps planned: with which operation it comes
abbrev pub planned_behind : Option Planned → Moment → List Step → List (List Move) → Option Planned
planned_behind plan now (x ∷ xs) (ms ∷ mss) = planned_behind (planned_by x.kind now plan) (moment_behind now ms) xs mss
planned_behind plan now steps moves = plan

-- ALL STEPS
-- a history that began with a start-up, with a piece for each step
pub record IsWalking (p q : Seen) (made : List Step) (old now : StackTold) : Type 0 where
  pub marks : List (Instance × Mark)
  pub ops : ℕ
  pub pieces : List (List Entry)
  pub more : List Entry
  pub grows : now.entries ≡ old.entries ++ more
  pub at : now.entries ≡ Found marks ops ∷ joined pieces
  pub walk : IsWalkOf old.configuration made pieces (Found marks ops ∷ joined pieces)
  pub as_many : length pieces ≡ length made
  pub room : EachPiece old.configuration (HadRoom old.configuration old.cap) (after old.configuration (Found marks ops ∷ [])) made pieces
  -- copies were refused exactly as the steps ask, and so the next ones will be
  pub refusals : (id : ℕ) → StepsRefuse old.configuration id (after old.configuration (Found marks ops ∷ [])) 0 made pieces (now.causes.to_refuse id)
  -- the Offs that no step planned were counted, and the cut that is planned yet is a step's
  pub off : AreCut None 0 (events_of made pieces) old now
  pub takes : old.causes.takes ≤ now.causes.takes + cuts_of made
  -- their turns, one by one
  pub moves : HasMoves made pieces (moment_of old) (moment_of now)
  pub closes : StaysCalm old now → ClosesAtDrains (moment_of old) made moves.moves
  pub finds : FindWorkAtDrains old.configuration (moment_of old) (state_of old) made moves.moves
  pub tell : now.entries ≡ old.entries ++ entries_of (all_moves moves.moves)
  pub by_law : MovesBy false (all_moves moves.moves) p q
  pub cuts : old.one ≡ true → CutsCome old.configuration None (moment_of old) (state_of old) made moves.moves
      × IsPending (planned_behind None (moment_of old) made moves.moves) now

-- these steps are made
pub record AreUnderWay (p q : Seen) (made : List Step) (table : List ℕ) (old now : StackTold) : Type 0 where
  pub configuration : now.configuration ≡ old.configuration
  pub cap : now.cap ≡ old.cap
  pub one : now.one ≡ old.one
  pub counted : old.faults ≤ now.faults
  pub kept : IsKept made now
  pub table_kept : HasLastStores now.configuration made table
  pub ready : old.ready ≡ true
  pub seen : IsSeen old p
  pub walking : IsWalking p q made old now
