-- The end of a job in hand, where what its program saw fits the settled marks.
use Rattle.std.specs.Prelude.{◌≡◌, ℕ, true, false, List, is_some, Some}
use Rattle.std.specs.List.{Contains}
use Rattle.block_machine.specs.nv_base.declared.job.JobStep.TheVariants as step
use Rattle.memif.specs.Told.{DeviceTold, given_by}
use Rattle.block_machine.specs.Words.{ReqResult, GivenFrom, FromDevice, Configuration}
use Rattle.block_machine.specs.State.{State, Job}
use Rattle.block_machine.specs.Blocks.{desc_of, job_block, kind_of}
use Rattle.block_machine.specs.ResultTable.{table}
use Rattle.block_machine.specs.Results.{own_of, outcomes_of, open_sets, device_content, took_none}
use Rattle.job_programs.specs.Program.{works}
use Rattle.job_programs.specs.Laws.{failed_of}
use Rattle.nvm_device_laws.specs.Tries.{IsProgramOf}
use Rattle.job_progress.specs.Hand.{HandState}
use Rattle.job_progress.specs.JobInHand.{IsInHand, FitsMarks}

-- The operations of a job failed at every try on these instances, which the history leaves open: its result and source are
-- the machine's, and what the device gave is too.
pub record IsExplained (c : Configuration) (s : State) (j : Job) (r : ReqResult) (source : GivenFrom) (content failed : List ℕ) : Type 0 where
  pub open_set : Contains (open_sets (own_of c s (job_block j)) j (kind_of j)) failed
  pub ends : took_none j.taken ≡ false → (r, source) ≡ table (is_some (desc_of c (job_block j)).defaults) (kind_of j) (outcomes_of (kind_of j) (own_of c s (job_block j)).marks failed)
  pub gives : took_none j.taken ≡ false → source ≡ FromDevice → Some content ≡ device_content (own_of c s (job_block j)).marks failed

-- a finished job is explained by some failed set
abbrev pub EndsAreExplained : Type 0
EndsAreExplained =
    (c : Configuration) (s : State) (h : HandState) (d : DeviceTold) (j : Job) (r : ReqResult) (source : GivenFrom) → IsInHand c s h d → s.hand ≡ Some j
    → FitsMarks c s j h d.stand → h.step ≡ step.Ended r source
    → (failed : List ℕ) × IsExplained c s j r source (given_by d.stand) failed

-- one that works on the device and got its content by those that failed in its program, which is the machine's
abbrev pub EndsAreOfPrograms : Type 0
EndsAreOfPrograms =
    (c : Configuration) (s : State) (h : HandState) (d : DeviceTold) (j : Job) (r : ReqResult) (source : GivenFrom) → IsInHand c s h d → s.hand ≡ Some j
    → FitsMarks c s j h d.stand → h.step ≡ step.Ended r source → works (kind_of j) ≡ true → took_none j.taken ≡ false
    → IsProgramOf c s j h.program × IsExplained c s j r source (given_by d.stand) (failed_of h.program.indices h.program.done)
