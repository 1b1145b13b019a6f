-- Requests of others behind the entries that the driver knows.
use Rattle.std.specs.Prelude.{◌≡◌, ℕ, Bool, true, List, [], ◌∷◌, ◌++◌, length, IfSome, Option}
use Rattle.nvm_core.specs.memif.Told.{DeviceTold}
use Rattle.nvm_core.specs.memif.Clock.{Clock}
use Rattle.turn_gate.specs.Entries.{OpenFrom}
use Rattle.nvm_core.specs.block_machine.Words.{Request, Reply, Entry, Ask, Configuration}
use Rattle.nvm_core.specs.block_machine.State.{State}
use Rattle.nvm_core.specs.block_machine.Blocks.{job_block, status_of, is_pending}
use Rattle.nvm_core.specs.block_machine.Steps.{step}
use Rattle.nvm_core.specs.nv_desk.Desk.{DeskState, state_of}
use Rattle.nvm_core.specs.job_progress.Hand.{HandState}
use Rattle.nvm_core.specs.nvm_laws.Ties.{IsTied}
use Rattle.nvm_core.specs.nvm_laws.Keeps.{StaysKept}
use Rattle.nvm_shared.specs.StatusWords.{is_ask}
use Rattle.nvm_shared.specs.Written.{AreWritten}

abbrev pub AreAsks : List Entry → Type 0
AreAsks [] = Unit {0}
AreAsks (e ∷ es) = (is_ask e ≡ true) × AreAsks es

-- a desk with more entries
abbrev pub with_more : DeskState → List Entry → DeskState
with_more desk more = record desk { entries = desk.entries ++ more }

-- the block of the job in hand is PENDING
abbrev pub HandIsPending : State → Type 0
HandIsPending s = IfSome s.hand (λ j. is_pending (status_of s (job_block j)) ≡ true)

-- Requests leave tied what is tied, and the power as it is; the promise is kept.
pub record StandsBehind (desk new : DeskState) (hand : Option HandState) (d : DeviceTold) (clock : Clock) : Type 0 where
  pub tied : IsTied new hand d
  pub pending : HandIsPending (state_of new)
  pub power : (state_of new).off ≡ (state_of desk).off
  pub kept : StaysKept desk hand d clock new hand d clock

abbrev pub AsksStandBehind : DeviceTold → Clock → Type 0
AsksStandBehind d clock =
    (tells : Bool) (desk : DeskState) (hand : Option HandState) (more : List Entry) → AreAsks more
    → AreWritten tells desk.config desk.cap (state_of desk) more → HandIsPending (state_of desk) → IsTied desk hand d
    → StandsBehind desk (with_more desk more) hand d clock

-- a request leaves the power as it is
abbrev pub AsksLeavePower : Type 0
AsksLeavePower = (c : Configuration) (s : State) (caller : ℕ) (r : Request) (reply : Reply)
    → ((step c s (Ask caller r reply)).started ≡ s.started) × ((step c s (Ask caller r reply)).off ≡ s.off)

-- entries that any pass may add are requests
abbrev pub OpenAreAsks : Type 0
OpenAreAsks = (h more : List Entry) → OpenFrom is_ask (h ++ more) (length h) → AreAsks more
