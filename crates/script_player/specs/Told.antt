-- What is told of a stack to whoever plays steps on it.
use Rattle.std.specs.Prelude.{◌≡◌, ◌⊎◌, ◌≤◌, ℕ, Bool, true, List, [], ◌∷◌, ◌++◌, Option, Some, None}
use Rattle.uds_gateway.specs.nv_base.Count.{last_count, WereCounted}
use Rattle.uds_gateway.specs.nv_base.Entry.{ops_behind}
use Rattle.uds_gateway.specs.block_machine.Words.{Entry, Off, Configuration}
use Rattle.uds_gateway.specs.block_machine.State.{State}
use Rattle.uds_gateway.specs.block_machine.Steps.{after}
use Rattle.uds_gateway.specs.nv_desk.Desk.{DeskState}
use Rattle.uds_gateway.specs.promise_run.Run.{DueCut, Event, Made, Added, plan_after, CutsAre}
use Rattle.uds_gateway.specs.promise_run.Turns.{Moment}

-- what explains refused copies and power cuts
pub record Causes : Type 0 where
  -- of each block: how many of its next copies are refused
  pub to_refuse : ℕ → ℕ
  -- the power cuts that no step asked for
  pub unplanned : ℕ
  -- of each one that was planned and came, in their order, how many bytes of its operation it let be done
  pub came : List ℕ
  -- the plans of a power cut that are taken yet
  pub takes : ℕ
  -- where one stands at the flash of the device's first part, and the power is on: how many operations are made when its cut
  -- comes, if no fault is counted, and how many bytes of the last it lets be done
  pub plan : Option DueCut
  -- a power cut stands in the device
  pub off : Bool

pub record StackTold : Type 0 where
  -- what never changes: the configuration, and the most entries of the history
  pub configuration : Configuration
  pub cap : ℕ
  -- the entries so far
  pub entries : List Entry
  -- the last start-up went well
  pub ready : Bool
  -- by block: the application's newest store of synchronized RAM, with its number
  pub stores : List (ℕ × List ℕ)
  -- the device's faults so far
  pub faults : ℕ
  -- its changing operations so far
  pub ops : ℕ
  -- a number that falls with each turn until a drain ends
  pub work : ℕ
  -- a job of the device is open, or work of its own
  pub busy : Bool
  -- its device has one part
  pub one : Bool
  pub causes : Causes

-- the state after its entries
abbrev pub state_of : StackTold → State
state_of t = after t.configuration t.entries

-- its desk, as far as it is told
abbrev pub desk_of : StackTold → DeskState
desk_of t = record { config = t.configuration; cap = t.cap; entries = t.entries; prepared = 0 }

-- what is told of the device at this moment
abbrev pub moment_of : StackTold → Moment
moment_of t = record { faults = t.faults; ops = t.ops; busy = t.busy }

-- these entries more, while faults and operations may be counted, and the work, what the device is at and the causes change
abbrev pub IsGrown : List Entry → StackTold → StackTold → Type 0
IsGrown es old new = new ≡ record old { entries = old.entries ++ es; faults = new.faults; ops = new.ops; work = new.work; busy = new.busy; causes = new.causes }

-- a cut that is planned at all comes no earlier than another plan says, and lets as much be done; a count at its end tells no moment
abbrev pub IsNoEarlier : Option DueCut → Option DueCut → Type 0
IsNoEarlier plan None = Unit {0}
IsNoEarlier (Some least) (Some cut) = ((least.due ≤ cut.due) ⊎ (last_count ≤ cut.due)) × (cut.keep ≡ least.keep)
IsNoEarlier None (Some cut) = ⊥

-- the plan that stands behind steps and entries: an Off drops it
abbrev pub plan_behind : Option DueCut → ℕ → List Event → Option DueCut
plan_behind plan ops [] = plan
plan_behind plan ops (Made kind ∷ es) = plan_behind (plan_after kind plan ops) ops es
plan_behind plan ops (Added (Off now) ∷ es) = plan_behind None now es
plan_behind plan ops (Added e ∷ es) = plan_behind plan (ops_behind ops (e ∷ [])) es

-- and the operations
abbrev pub ops_at : ℕ → List Event → ℕ
ops_at ops [] = ops
ops_at ops (Made kind ∷ es) = ops_at ops es
ops_at ops (Added e ∷ es) = ops_at (ops_behind ops (e ∷ [])) es

-- the power is off only where the entries tell it
abbrev pub TellsOff : StackTold → Type 0
TellsOff t = t.causes.off ≡ true → (state_of t).off ≡ true

-- From one to the other the Offs among these are planned cuts that came, and others that were counted; and a cut that is planned
-- behind them is a step's.
pub record AreCut (plan : Option DueCut) (ops : ℕ) (es : List Event) (old new : StackTold) : Type 0 where
  pub cuts : List ℕ
  pub others : ℕ
  pub are : CutsAre plan ops es cuts others
  pub came : new.causes.came ≡ old.causes.came ++ cuts
  pub counted : WereCounted others old.causes.unplanned new.causes.unplanned
  pub plan_stays : IsNoEarlier (plan_behind plan ops es) new.causes.plan
  pub power : TellsOff old → TellsOff new
