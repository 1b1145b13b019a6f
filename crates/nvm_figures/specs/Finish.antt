-- A job that is finished over a device.
use Rattle.std.specs.Prelude.{◌≡◌, ◌⊎◌, ◌≤◌, ◌+◌, ℕ, Bool, true, List, [], Option, Some, None, Result, Ok, Err}
use Rattle.std.specs.List.{Contains}
use Rattle.block_machine.specs.nv_base.Marks.{number_of}
use Rattle.block_machine.specs.nv_base.declared.job.JobStep.{JobStep}
use Rattle.block_machine.specs.nv_base.declared.job.JobStep.TheVariants.{Device, Ended}
use Rattle.memif.specs.declared.answer.DeviceRefusal.{DeviceRefusal}
use Rattle.memif.specs.Told.{DeviceTold, Part, part_at, is_off, is_open}
use Rattle.memif.specs.Clock.{Clock}
use Rattle.memif.specs.Calls.{Wish, AcceptsAs, InOrder, Works, refusal_of}
use Rattle.block_machine.specs.Words.{BlockDesc, JobKind}
use Rattle.job_programs.specs.Program.{program_of, Program, next_in, step_of}
use Rattle.nvm_figures.specs.declared.finish.JobEnd.{JobEnd}
use Rattle.nvm_figures.specs.declared.finish.JobEnd.TheVariants.{Over, Off}
use Rattle.nvm_figures.specs.Left.{stack_left, most_turns}
use Rattle.nvm_figures.specs.Urgent.{pages_of, urgent_turns}
use Rattle.nvm_figures.specs.Job.{program_next, wish_for}
use Rattle.nvm_figures.specs.Run.{IsUrgentWrite, IsJobTurned, JobTurn, AreTurned}

-- THE JOB
-- nothing was done of it
pub record IsBegun (p : Program) : Type 0 where
  pub done : p.done ≡ []
  pub failures : p.failures ≡ 0

-- its instances have device numbers
pub record IsPlaced (p : Program) : Type 0 where
  pub block : p.block ≤ 512
  pub indices : (i : ℕ) → Contains p.indices i → i ≤ 63

-- as those of a block's programs do
abbrev pub ProgramsArePlaced : Type 0
ProgramsArePlaced =
    (desc : BlockDesc) (defaults : Bool) (block index : ℕ) (kind : JobKind) → block ≤ 512 → index ≤ 63
    → IsPlaced (program_of desc defaults block index kind)

-- what it asks the device for next
abbrev pub wish_of : JobStep → ℕ → List ℕ → Bool → Option Wish
wish_of (Device op instance) length content urgent = Some (wish_for op (number_of instance) length content urgent)
wish_of (Ended result source) length content urgent = None

-- the device refuses what is asked for
abbrev pub Refuses : DeviceRefusal → Option Wish → DeviceTold → Type 0
Refuses r (Some w) d = refusal_of d w.job.number w.length ≡ Some r
Refuses r None d = ⊥

-- after these turns it is over with what its program says, or in a turn behind them the power is off
abbrev pub IsRun : JobEnd → List ℕ → Bool → Program → DeviceTold → List JobTurn → Program → DeviceTold → Type 0
IsRun (Over result source) content urgent p old run q new = AreTurned content urgent p old run q new × (next_in q ≡ None) × (step_of q ≡ Ended result source)
IsRun Off content urgent p old run q new = (before : DeviceTold) × AreTurned content urgent p old run q before × (is_off new ≡ true)

-- Behind so many turns it is posted within what was left at its begin, and within a number of the job and of the device's
-- figures; an urgent write that was ready within its urgent turns, one for its Pick and one for its Post among them.
pub record IsInTime (urgent : Bool) (turns : ℕ) (p : Program) (begun : DeviceTold) : Type 0 where
  pub within : turns + 1 ≤ stack_left (Some p) begun
  pub bounded : turns + 1 ≤ most_turns begun.fixed p
  pub soon : IsUrgentWrite begun.fixed urgent p.block p.kind → pages_of begun.fixed p.block p.indices ≤ begun.ready
      → turns + 2 ≤ urgent_turns begun.fixed p

-- A TURN
-- a job of the device is open: it was, or is this one
abbrev pub Begins : Wish → Result (Unit {0}) DeviceRefusal → DeviceTold → DeviceTold → Clock → Type 0
Begins w (Ok _) old new clock = ((is_open old.stand ≡ true) × (new ≡ old)) ⊎ (AcceptsAs w (Ok tt) old new × InOrder new clock)
Begins w (Err r) old new clock = (refusal_of old w.job.number w.length ≡ Some r) × (new ≡ old)

-- no count of faults falls
abbrev pub NoCountFalls : DeviceTold → DeviceTold → Type 0
NoCountFalls old new = (part : Part) → (part_at part old).faults ≤ (part_at part new).faults

-- a turn of the device: the program's next step, or none where the power is off
abbrev pub GoesOn : Option JobStep → Program → DeviceTold → Program → DeviceTold → Clock → Type 0
GoesOn None p old q new clock = (is_off new ≡ true) × (q ≡ p) × NoCountFalls old new
GoesOn (Some step) p old q new clock = (step ≡ step_of q) × (q ≡ program_next p old.stand new.stand) × ((part : Part) × Works part old new clock)

-- with the start of its operation before it
abbrev pub TurnsJob : List ℕ → Bool → Option JobStep → Program → DeviceTold → Program → DeviceTold → Type 0
TurnsJob content urgent None p old q new = (is_off new ≡ true) × (q ≡ p) × NoCountFalls old new
TurnsJob content urgent (Some step) p old q new = (step ≡ step_of q) × IsJobTurned content urgent p old q new
