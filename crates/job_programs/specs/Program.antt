-- A job at work.
use Rattle.std.specs.Prelude.{ℕ, ◌+◌, ◌-◌, ◌&&◌, nat_lt, Bool, true, false, List, [], ◌∷◌, ◌++◌, length, replicate, slice_get, if◌then◌else◌, Option, Some, None}
use Rattle.std.specs.List.{list_any}
use Rattle.block_machine.specs.nv_base.declared.job.DeviceOp.{DeviceOp}
use Rattle.block_machine.specs.nv_base.declared.job.DeviceOp.TheVariants as op
use Rattle.block_machine.specs.nv_base.declared.job.Outcome.TheVariants.{First}
use Rattle.block_machine.specs.nv_base.declared.job.JobStep.{JobStep}
use Rattle.block_machine.specs.nv_base.declared.job.JobStep.TheVariants.{Device, Ended}
use Rattle.block_machine.specs.block_config.declared.block.BlockDesc.{BlockDesc}
use Rattle.block_machine.specs.Words.{ReqResult, JobKind, ReadJob, WriteJob, EraseJob, InvalidateJob, Outcome, ReadContent, FoundInvalid, Failed, GivenFrom}
use Rattle.block_machine.specs.Blocks.{indices_by}
use Rattle.block_machine.specs.ResultTable.{table}
use Rattle.job_programs.specs.declared.program_job.ProgramJob.{ProgramJob}

pub record Program : Type 0 where
  pub block : ℕ
  pub kind : JobKind
  -- its block has defaults
  pub defaults : Bool
  -- the instances that it works on, in order
  pub indices : List ℕ
  -- how often an operation is tried again
  pub retries : ℕ
  -- the outcomes of the operations that are done, in order
  pub done : List Outcome
  -- the failed tries of the one that isn't
  pub failures : ℕ

-- what is done of a job: its instances, the outcomes so far, and the failed tries of the operation that it is at
abbrev pub program_at : ProgramJob → List ℕ → List Outcome → ℕ → Program
program_at j indices done failures = record {
  block = j.block;
  kind = j.kind;
  defaults = j.defaults;
  indices = indices;
  retries = j.retries;
  done = done;
  failures = failures;
}

-- THE JOB

-- Reads, writes, erases and invalidations work on the device. A restore doesn't, nor does what isn't a job on one block.
abbrev pub works : JobKind → Bool
works ReadJob = true
works WriteJob = true
works EraseJob = true
works InvalidateJob = true
works kind = false

abbrev pub operation : JobKind → DeviceOp
operation ReadJob = op.Read
operation EraseJob = op.Erase
operation InvalidateJob = op.Invalidate
operation kind = op.Write

abbrev pub retries_of : BlockDesc → JobKind → ℕ
retries_of d ReadJob = d.reads
retries_of d kind = d.writes

-- a job on a block that nothing was done of, at a data index
abbrev pub program_of : BlockDesc → Bool → ℕ → ℕ → JobKind → Program
program_of d defaults block index kind = record {
  block = block;
  kind = kind;
  defaults = defaults;
  indices = if works kind then indices_by d.kind d.nv index else [];
  retries = retries_of d kind;
  done = [];
  failures = 0;
}

-- WHAT COMES NEXT

-- a read needs no further copy behind a content or an invalid one
abbrev pub settles : JobKind → Outcome → Bool
settles ReadJob ReadContent = true
settles ReadJob FoundInvalid = true
settles kind outcome = false

-- the outcomes of all instances, where those that a read doesn't need count as failed
abbrev pub outcomes_in : Program → List Outcome
outcomes_in p = p.done ++ replicate (length p.indices - length p.done) Failed

abbrev pub ended_by : ReqResult × GivenFrom → JobStep
ended_by e = Ended e.0 e.1

abbrev pub end_of : Program → JobStep
end_of p = ended_by (table p.defaults p.kind (outcomes_in p))

-- the instance that is next, if the job isn't over
abbrev pub next_in : Program → Option ℕ
next_in p = if list_any (settles p.kind) p.done then None else slice_get p.indices (length p.done)

abbrev pub step_by : Program → Option ℕ → JobStep
step_by p (Some index) = Device (operation p.kind) (record { block = p.block; index = index })
step_by p None = end_of p

-- an operation on the next instance, or the end
abbrev pub step_of : Program → JobStep
step_of p = step_by p (next_in p)

-- AFTER AN OUTCOME

abbrev pub is_failed : Outcome → Bool
is_failed Failed = true
is_failed outcome = false

-- an operation that failed is tried again while tries are left
abbrev pub is_again : Outcome → ℕ → ℕ → Bool
is_again outcome failures retries = is_failed outcome && nat_lt failures retries

-- any other is done
abbrev pub tried : Program → Outcome → Program
tried p outcome =
    if is_again outcome p.failures p.retries then record p { failures = p.failures + 1 }
    else record p { done = p.done ++ outcome ∷ []; failures = 0 }

abbrev pub after_by : Program → Option ℕ → Outcome → Program
after_by p None outcome = p
after_by p (Some index) First = p
after_by p (Some index) outcome = tried p outcome

-- nothing changes before the first operation, and behind the end
abbrev pub after : Program → Outcome → Program
after p outcome = after_by p (next_in p) outcome
