-- By what the turns of a drain go down.
use Rattle.std.specs.Prelude.{◌≡◌, ◌<◌, ◌≤◌, ◌-◌, ℕ, [], ◌∷◌, ◌++◌, length, Option, option_map}
use Rattle.memif.specs.Told.{DeviceTold}
use Rattle.memif.specs.Clock.{Clock}
use Rattle.memif.specs.Calls.{InOrder}
use Rattle.block_machine.specs.block_config.Rules.{IsLegalConfig}
use Rattle.block_machine.specs.Words.{Entry, Configuration}
use Rattle.block_machine.specs.State.{State}
use Rattle.job_programs.specs.Program.{Program}
use Rattle.nvm_figures.specs.Drain.{IsSmall, drain_work}
use Rattle.nv_desk_copies.specs.nv_desk.Desk.{DeskState}
use Rattle.job_progress.specs.Hand.{HandState}
use Rattle.job_progress.specs.JobInHand.{IsPaired}

-- the program of the job in hand, if there is one
abbrev pub program_in_hand : Option HandState → Option Program
program_in_hand hand = option_map (λ (h : HandState). h.program) hand

-- of the entries that still fit, then of the job in hand, then of what is open at the device
abbrev pub stack_work : DeskState → Option HandState → DeviceTold → ℕ
stack_work desk hand d = drain_work (desk.cap - length desk.entries) (program_in_hand hand) d

-- a job in hand works on two instances at most, and its retries are a byte
abbrev pub HandsAreSmall : Type 0
HandsAreSmall =
    (c : Configuration) (s : State) (hand : Option HandState) (d : DeviceTold) → IsLegalConfig c → IsPaired c s hand d → IsSmall (program_in_hand hand)

-- an entry more lowers it, whatever else is done
abbrev pub EntriesLowerWork : DeviceTold → Clock → Type 0
EntriesLowerWork new clock =
    (old : DeviceTold) (desk desk_new : DeskState) (e : Entry) (hand next : Option HandState) → InOrder new clock
    → desk_new ≡ record desk { entries = desk.entries ++ e ∷ [] } → length desk_new.entries ≤ desk_new.cap → IsSmall (program_in_hand next)
    → stack_work desk_new next new < stack_work desk hand old
