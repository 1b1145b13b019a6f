-- How the job in hand goes on.
use Rattle.std.specs.Prelude.{◌≡◌, ◌≤◌, ℕ, false, List, length, Option, Some, None}
use Rattle.block_machine.specs.nv_base.declared.instance.Instance.{Instance}
use Rattle.block_machine.specs.nv_base.declared.job.DeviceOp.{DeviceOp}
use Rattle.block_machine.specs.nv_base.declared.job.JobStep.TheVariants as step
use Rattle.memif.specs.declared.answer.JobResult.{JobResult}
use Rattle.memif.specs.declared.answer.JobResult.TheVariants.{JobOk}
use Rattle.memif.specs.Told as device
use Rattle.memif.specs.Told.{DeviceTold, Open, Ended}
use Rattle.block_machine.specs.block_config.Rules.{IsLegalConfig}
use Rattle.block_machine.specs.Words.{Mark, Entry, Configuration}
use Rattle.block_machine.specs.State.{State, Job}
use Rattle.block_machine.specs.Blocks.{desc_of, job_block, kind_of}
use Rattle.block_machine.specs.Results.{took_none}
use Rattle.block_machine.specs.Steps.{step as stepped}
use Rattle.block_machine.specs.Legal.{IsAllowed, IsDriving}
use Rattle.job_programs.specs.Program.{next_in, operation}
use Rattle.nvm_device_laws.specs.Outcomes.{outcome_by}
use Rattle.nvm_device_laws.specs.Turn.{settled_by}
use Rattle.job_progress.specs.Hand.{HandState, with_start, ended}
use Rattle.job_progress.specs.JobInHand.{IsInHand, job_for}

-- the step of a hand is this operation on this instance
pub record Names (c : Configuration) (s : State) (h : HandState) (op : DeviceOp) (i : Instance) : Type 0 where
  pub job : Job
  pub hand : s.hand ≡ Some job
  pub index : ℕ
  pub next : next_in h.program ≡ Some index
  pub op_is : op ≡ operation (kind_of job)
  pub block : i.block ≡ job_block job
  pub index_is : i.index ≡ index
  pub same_block : h.program.block ≡ job_block job
  pub content : took_none job.taken ≡ false
  -- it has a device number
  pub small : index ≤ 63

-- where the step of a hand is an operation, it is the next one of the program
abbrev pub StepsName : Type 0
StepsName =
    (c : Configuration) (s : State) (h : HandState) (d : DeviceTold) (op : DeviceOp) (i : Instance) → IsLegalConfig c → IsInHand c s h d
    → h.step ≡ step.Device op i → Names c s h op i

-- the device begins with it
abbrev pub StartsGoOn : Type 0
StartsGoOn =
    (c : Configuration) (s : State) (h : HandState) (old new : DeviceTold) (op : DeviceOp) (i : Instance) (j : Job) (index : ℕ)
    → IsInHand c s h old → h.step ≡ step.Device op i → s.hand ≡ Some j → next_in h.program ≡ Some index
    → new.stand ≡ Open (job_for c j h.program index) → IsInHand c s (with_start h) new

-- the state behind an entry, if there is one
abbrev pub state_by : Configuration → State → Option Entry → State
state_by c s None = s
state_by c s (Some e) = stepped c s e

-- a read that ends well gives a content of its block's length
abbrev pub ReadsWhole : ℕ → Option Mark → JobResult → List ℕ → Type 0
ReadsWhole size None JobOk given = length given ≡ size
ReadsWhole size mark r given = Unit {0}

-- the device's job ends, with the entry that it asks for
abbrev pub HandsGoOn : Type 0
HandsGoOn =
    (c : Configuration) (s : State) (h : HandState) (old new : DeviceTold) (job : device.Job) (r : JobResult) (given : List ℕ) (j : Job) (ops : ℕ)
    → IsLegalConfig c → IsInHand c s h old → s.hand ≡ Some j → old.stand ≡ Open job → new.stand ≡ Ended r given
    → ReadsWhole (desc_of c (job_block j)).length job.mark r given
    → IsInHand c (state_by c s (settled_by old.stand new.stand ops)) (ended (outcome_by job.mark r) h) new

-- that entry is allowed
abbrev pub WritesAreAllowed : Type 0
WritesAreAllowed =
    (c : Configuration) (cap : ℕ) (s : State) (h : HandState) (old new : DeviceTold) (e : Entry) (ops : ℕ) → IsLegalConfig c → IsInHand c s h old
    → IsDriving s ops → settled_by old.stand new.stand ops ≡ Some e → IsAllowed c cap s e
