-- The job in hand, as the machine, the driver and the device have it.
use Rattle.std.specs.Prelude.{◌≡◌, ◌≢◌, ◌≤◌, ℕ, false, List, length, is_some, IsSome, Option, Some, None}
use Rattle.block_machine.specs.nv_base.Marks.{number_of}
use Rattle.block_machine.specs.nv_base.declared.job.JobStep.{JobStep}
use Rattle.block_machine.specs.nv_base.declared.job.JobStep.TheVariants as step
use Rattle.memif.specs.declared.answer.JobResult.TheVariants.{JobOk}
use Rattle.memif.specs.Told as device
use Rattle.memif.specs.Told.{DeviceTold, Stand, Open, Ended, is_open, IfElse}
use Rattle.block_machine.specs.Words.{ReqResult, ReadJob, WriteJob, NotOk, FromNowhere, FromDevice, Configuration}
use Rattle.block_machine.specs.State.{State, Job}
use Rattle.block_machine.specs.Blocks.{desc_of, block_at, job_block, kind_of, mark_of, rank_of}
use Rattle.block_machine.specs.Results.{own_of, took_none}
use Rattle.job_programs.specs.Program.{Program, program_of, next_in, step_of}
use Rattle.job_programs.specs.Laws.{Fit, GoesOnlyAsNeeded, last_content}
use Rattle.job_programs.specs.Failures.{served_of}
use Rattle.job_progress.specs.Hand.{HandState}

-- THE PROGRAM
-- the program of a job on which nothing was done
abbrev pub program_for : Configuration → State → Job → Program
program_for c s j = program_of (desc_of c (job_block j)) (is_some (desc_of c (job_block j)).defaults) (job_block j) (block_at s (job_block j)).index (kind_of j)

-- a write that got a content has it
abbrev pub HasContent : Job → Type 0
HasContent j = kind_of j ≡ WriteJob → took_none j.taken ≡ false → IsSome j.content

-- It is that of the job, at its end or on the way: as many tries are behind it as are allowed, it went on only as needed,
-- and the instances that it served are those that the machine's job wrote.
pub record IsWorking (c : Configuration) (s : State) (j : Job) (p : Program) : Type 0 where
  pub is : p ≡ record (program_for c s j) { done = p.done; failures = p.failures }
  pub tries : p.failures ≤ p.retries
  pub needed : GoesOnlyAsNeeded p.kind p.done
  pub written : kind_of j ≢ ReadJob → j.written ≡ served_of p.indices p.done
  pub content : HasContent j

-- THE DEVICE
-- the device's job for an instance
abbrev pub job_for : Configuration → Job → Program → ℕ → device.Job
job_for c j p index = record { number = number_of (record { block = p.block; index = index }); mark = mark_of j; urgent = (rank_of c j).immediate }

-- the device is at the next operation of the program
pub record IsAt (c : Configuration) (j : Job) (p : Program) (stand : Stand) : Type 0 where
  pub index : ℕ
  pub next : next_in p ≡ Some index
  pub stands : stand ≡ Open (job_for c j p index)

-- where a job gives what the device read, the device has a whole content
abbrev pub GivesWhole : ℕ → JobStep → Stand → Type 0
GivesWhole size (step.Ended r FromDevice) stand = (bytes : List ℕ) × (stand ≡ Ended JobOk bytes) × (length bytes ≡ size)
GivesWhole size other stand = Unit {0}

-- THE HAND
-- a job that got no content to write is finished
abbrev pub IsFruitless : HandState → Type 0
IsFruitless h = (h.step ≡ step.Ended NotOk FromNowhere) × (h.started ≡ false)

-- the driver has the machine's job in hand, and the device is at what the hand says
pub record IsInHand (c : Configuration) (s : State) (h : HandState) (d : DeviceTold) : Type 0 where
  pub job : Job
  pub hand : s.hand ≡ Some job
  pub working : IsWorking c s job h.program
  pub step : IfElse (took_none job.taken) (IsFruitless h) (h.step ≡ step_of h.program)
  pub at : IfElse h.started (IsAt c job h.program d.stand) (is_open d.stand ≡ false)
  pub given : GivesWhole (desc_of c (job_block job)).length h.step d.stand

-- with no job in hand the device has none either
abbrev pub IsPaired : Configuration → State → Option HandState → DeviceTold → Type 0
IsPaired c s None d = (s.hand ≡ None) × (is_open d.stand ≡ false)
IsPaired c s (Some h) d = IsInHand c s h d

-- WHAT THE DEVICE HOLDS
-- what the program saw fits the machine's settled marks, and what the device has read last is the last of them
pub record FitsMarks (c : Configuration) (s : State) (j : Job) (h : HandState) (stand : Stand) : Type 0 where
  pub fit : Fit h.program.kind (own_of c s (job_block j)).marks h.program.done
  pub last : (r : ReqResult) (bytes : List ℕ) → h.step ≡ step.Ended r FromDevice → stand ≡ Ended JobOk bytes
      → last_content (own_of c s (job_block j)).marks (length h.program.done) ≡ Some bytes

abbrev pub HandFits : Configuration → State → Option HandState → DeviceTold → Type 0
HandFits c s None d = Unit {0}
HandFits c s (Some h) d = (j : Job) → s.hand ≡ Some j → FitsMarks c s j h d.stand
