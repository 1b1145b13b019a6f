-- What the driver holds of a job.
use Rattle.std.specs.Prelude.{ℕ, Bool, true, false}
use Rattle.block_machine.specs.nv_base.declared.job.JobStep.{JobStep}
use Rattle.block_machine.specs.nv_base.declared.job.JobStep.TheVariants.{Device, Ended}
use Rattle.block_machine.specs.Words.{BlockDesc, JobKind, Outcome, ReqResult, NotOk, FromNowhere}
use Rattle.job_programs.specs.Program.{Program, program_of, after, step_of}
use Rattle.job_progress.specs.declared.program.JobProgram.{JobProgram}
use Rattle.job_progress.specs.declared.program.JobProgram.TheVariants.{Plain, Redundant}

abbrev pub program_in : JobProgram → Program
program_in (Plain p) = p
program_in (Redundant p) = p

pub record HandState : Type 0 where
  pub program : Program
  -- what the program named last
  pub step : JobStep
  -- the device is at it
  pub started : Bool

-- a job that nothing was done of
abbrev pub began : BlockDesc → Bool → ℕ → ℕ → JobKind → HandState
began d defaults block index kind = record { program = program_of d defaults block index kind; step = step_of (program_of d defaults block index kind); started = false }

-- one that ends with this, without an operation
abbrev pub finished : BlockDesc → Bool → ℕ → ℕ → JobKind → ReqResult → HandState
finished d defaults block index kind r = record { program = program_of d defaults block index kind; step = Ended r FromNowhere; started = false }

-- one that got no content to write
abbrev pub refused : BlockDesc → Bool → ℕ → ℕ → JobKind → HandState
refused d defaults block index kind = finished d defaults block index kind NotOk

-- the device begins with the step
abbrev pub with_start : HandState → HandState
with_start h = record h { started = true }

-- the step came to an outcome
abbrev pub ended : Outcome → HandState → HandState
ended outcome h = record { program = after h.program outcome; step = step_of (after h.program outcome); started = false }

-- nothing is left to do but the Post
abbrev pub is_finished : JobStep → Bool
is_finished (Ended r source) = true
is_finished (Device op i) = false
