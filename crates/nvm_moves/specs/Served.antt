-- When urgent writes are due, between moves and behind them.
use Rattle.std.specs.Prelude.{◌≡◌, ◌⊎◌, ◌≤◌, ◌+◌, ℕ, Bool, true, false, List, Option, Some, None}
use Rattle.nvm_core.specs.memif.Told.{DeviceTold, Fixed, Second}
use Rattle.nvm_core.specs.memif.Clock.{Clock}
use Rattle.nvm_core.specs.block_config.Sizes.{instances_of}
use Rattle.nvm_core.specs.block_machine.Words.{Configuration}
use Rattle.nvm_core.specs.block_machine.State.{State}
use Rattle.nvm_core.specs.block_machine.Blocks.{desc_of, is_pending, status_of}
use Rattle.nvm_core.specs.nv_desk.Desk.{DeskState, state_of}
use Rattle.nvm_core.specs.job_progress.Hand.{HandState}
use Rattle.nvm_core.specs.nvm_laws.Due.{IsDue, IsDueInHand, IsFirstBlock}
use Rattle.nvm_core.specs.nvm_laws.Traits.{IsSealedSince}
use Rattle.nvm_core.specs.JobNumbers.{IsOfBlock}
use Rattle.nvm_core.specs.DueWrites.{IsDueFor, pages_in}
use Rattle.nvm_core.specs.promise_blocks.OverDevice.{is_of}
use Rattle.promise_run.specs.DeviceTurns.{MayGoOnAsTold}
use Rattle.promise_run.specs.Turns.{Moment, Move, EachMoveSince, IsPostedSoon, PostsUrgent, turns_beside, urgent_block}
use Rattle.nvm_moves.specs.Seen.{Begun, Seen, moment_seen}

-- WHEN IT IS DUE
-- an urgent write of a block is due within so many turns, and its block is PENDING
pub record IsAskedDue (id turns : ℕ) (desk : DeskState) (hand : Option HandState) (d : DeviceTold) : Type 0 where
  pub number : ℕ
  pub due : IsDue number turns (record { desk = desk; hand = hand; device = d })
  pub block : IsOfBlock number id (state_of desk)
  pub on : (state_of desk).off ≡ false
  pub pending : is_pending (status_of (state_of desk) id) ≡ true

-- behind the first half of a turn that goes to the device: what was due is in hand, and what is accepted then waits for that turn
abbrev pub IsDueWithin : Option HandState → DeviceTold → DeskState → Bool → ℕ → ℕ → Type 0
IsDueWithin hand d desk one id turns =
    ((number : ℕ) × IsDueInHand number turns (record { desk = desk; hand = hand; device = d }) × IsOfBlock number id (state_of desk) × ((state_of desk).off ≡ false))
    ⊎ ((less : ℕ) × (one ≡ true) × (turns ≡ less + 1) × IsAskedDue id less desk hand d)

abbrev pub due_by : Option Begun → Option HandState → DeviceTold → DeskState → Bool → ℕ → ℕ → Type 0
due_by None hand d desk one id turns = IsDueFor id one turns (record { desk = desk; hand = hand; device = d })
due_by (Some b) hand d desk one id turns = IsDueWithin hand d desk one id turns

-- an urgent write of a block is due within so many turns, where the one that goes to the Post of a finished job isn't counted, if so it is
-- said
abbrev pub DueAt : Seen → Bool → ℕ → ℕ → Type 0
DueAt s one id turns = due_by s.begun s.hand s.device s.desk one id turns

-- a block of the first part
abbrev pub OfFirst : Fixed → ℕ → Type 0
OfFirst f id = is_of Second f id ≡ false

-- A block has no more instances than numbers, and all numbers of a block of the first part are of it.
pub record HasBlocks (c : Configuration) (f : Fixed) : Type 0 where
  pub few : (id : ℕ) → instances_of (desc_of c id) ≤ 64
  pub first : (id : ℕ) → OfFirst f id → IsFirstBlock f id

-- Behind an operation that left a switch at its seal that switch goes on.
pub record IsServable (since : ℕ) (s : Seen) : Type 0 where
  pub uncut : s.uncut
  pub blocks : HasBlocks s.desk.config s.device.fixed
  pub sealed : IsSealedSince since s.device s.clock

-- a move that accepts an urgent write of such a block
abbrev pub PostsUrgentOf : (of : ℕ → Type 0) → Configuration → (more : ℕ) → (pages : State → ℕ → ℕ) → (free : (since operations pages : ℕ) → Type 0)
    → (still : ℕ → Bool → ℕ → Type 0) → ℕ → State → Move → List Move → Type 0
PostsUrgentOf of c more pages free still since s m ms = ((id : ℕ) → urgent_block c s m.entry ≡ Some id → of id) → PostsUrgent c more pages free still since s m ms

-- From what is due before moves to what is due behind them: it is posted soon, and so is what is accepted in them of such a block, within
-- its pages and so many turns.
pub record AreServed (of : ℕ → Type 0) (more : ℕ) (c : Configuration) (pages : State → ℕ → ℕ) (free : (since operations pages : ℕ) → Type 0)
    (P Q : Bool → ℕ → ℕ → Type 0) (since : ℕ) (before : Moment) (s : State) (moves : List Move) : Type 0 where
  pub dues : (one : Bool) (id turns : ℕ) → P one id turns → IsPostedSoon (λ o n. Q o id n) one id turns before.faults moves
  pub urgent : EachMoveSince c (PostsUrgentOf of c more pages free (λ id o n. Q o id n)) since s moves

-- by what a clock tells of the operations
abbrev pub ServesBy : (within : Bool) → Clock → (P Q : Bool → ℕ → ℕ → Type 0) → ℕ → Seen → List Move → Type 0
ServesBy within clock P Q since s moves =
    AreServed (OfFirst s.device.fixed) (turns_beside within) s.desk.config (pages_in s.device.fixed s.desk.config) (MayGoOnAsTold clock s.device.fixed.reserve)
    P Q since (moment_seen s) (state_of s.desk) moves
