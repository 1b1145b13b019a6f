-- What the desk shows, and what it keeps.
use Rattle.std.specs.Prelude.{◌≡◌, ℕ, ◌+◌, ◌≤◌, ◌<◌, ◌^◌, true, false, Bool, List, [], length}
use Rattle.block_machine.specs.Words.{Configuration, Entry, Request, ReadAll, WriteAll}
use Rattle.block_machine.specs.State.{State, jobs_of}
use Rattle.block_machine.specs.Blocks.{desc_of}
use Rattle.block_machine.specs.Sweeps.{sweep_entries, sweep_at}
use Rattle.block_machine.specs.Reply.{reserved_entries}
use Rattle.block_machine.specs.Steps.{after}
use Rattle.nv_desk_state.specs.Kept.{Agrees}
use Rattle.nv_desk.specs.Places.{AreReady}
use Rattle.nv_desk.specs.Sound.{IsSound}
use Rattle.nv_desk.specs.declared.desk.Desk.TheInside.{Inside}

-- the configuration, how many entries the history may have, the entries so far, and how many there were when memory for
-- the entry of a start-up was taken last
pub record DeskState : Type 0 where
  pub config : Configuration
  pub cap : ℕ
  pub entries : List Entry
  pub prepared : ℕ

abbrev pub shown : Inside → DeskState
shown d = record { config = d.config; cap = d.history.cap; entries = d.history.entries; prepared = d.prepared }

-- a desk before its first start-up
abbrev pub first_desk : Configuration → ℕ → DeskState
first_desk c cap = record { config = c; cap = cap; entries = []; prepared = 0 }

-- the state of the block machine after its entries
abbrev pub state_of : DeskState → State
state_of d = after d.config d.entries

-- What is kept stands for the state after the history. The reserved entries fit under the cap, and there is memory for
-- them. The content of a job has the place of its block. Until the next entry there is memory for a start-up's and an Off
-- behind it, once it was taken.
pub record IsKept (d : Inside) : Type 0 where
  pub agrees : Agrees d.config d.kept (after d.config d.history.entries)
  pub sound : IsSound d.config (after d.config d.history.entries)
  pub fits : length d.history.entries + reserved_entries d.config (after d.config d.history.entries) ≤ d.history.cap
  pub memory : reserved_entries d.config (after d.config d.history.entries) ≤ d.history.reserved
  pub one_each : length d.places ≡ length d.config.blocks + 1
  pub ready : AreReady d.config (jobs_of (after d.config d.history.entries)) d.places
  pub prepared : d.prepared ≤ length d.history.entries
  pub place : d.prepared ≡ length d.history.entries → 2 ≤ d.history.reserved
  pub longest : (id : ℕ) → (desc_of d.config id).length ≤ d.history.longest
  pub within : d.history.cap < 2 ^ 32
  pub read_share : d.read_share ≡ sweep_entries d.config (sweep_at d.config 0 false)
  pub write_share : d.write_share ≡ sweep_entries d.config (sweep_at d.config 0 true)

abbrev pub sweep_request : Bool → Request
sweep_request true = WriteAll
sweep_request false = ReadAll
