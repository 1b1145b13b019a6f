-- The start of the next operation of the job in hand.
use Rattle.std.specs.Prelude.{◌≡◌, ◌≤◌, ℕ, List, Some, Result}
use Rattle.nvm_laws.specs.nv_base.declared.instance.Instance.{Instance}
use Rattle.nvm_laws.specs.nv_base.declared.job.DeviceOp.{DeviceOp}
use Rattle.nvm_laws.specs.memif.Told.{DeviceTold}
use Rattle.nvm_laws.specs.nv_base.declared.job.JobStep.TheVariants as step
use Rattle.nvm_laws.specs.memif.Clock.{Clock}
use Rattle.nvm_laws.specs.memif.Calls.{AcceptsAs}
use Rattle.nvm_laws.specs.memif.declared.answer.DeviceRefusal.{DeviceRefusal}
use Rattle.nvm_laws.specs.block_machine.State.{Job}
use Rattle.nvm_laws.specs.block_machine.Blocks.{job_block, rank_of}
use Rattle.nvm_laws.specs.nvm_device_laws.Turn.{write_wish}
use Rattle.nvm_laws.specs.nv_desk.Desk.{DeskState, state_of}
use Rattle.nvm_laws.specs.job_progress.Hand.{HandState, with_start}
use Rattle.nvm_laws.specs.job_progress.JobInHand.{IsInHand, IsWorking, job_for}
use Rattle.nvm_laws.specs.job_progress.Goes.{Names}
use Rattle.nvm_laws.specs.Keeps.{StaysKept}
use Rattle.nvm_laws.specs.Turns.{wish_for}

-- a job is in hand, and this is an instance of its block that has a device number
pub record IsOfHand (desk : DeskState) (i : Instance) : Type 0 where
  pub job : Job
  pub hand : (state_of desk).hand ≡ Some job
  pub block : i.block ≡ job_block job
  pub small : i.index ≤ 63

-- where the hand names this operation, the device takes it, or refuses it
abbrev pub IsStarted : Result (Unit {0}) DeviceRefusal → DeskState → DeviceOp → Instance → DeviceTold → DeviceTold → Type 0
IsStarted answer desk op i old new =
    (h : HandState) (names : Names desk.config (state_of desk) h op i) → IsWorking desk.config (state_of desk) names.job h.program
    → AcceptsAs (wish_for desk.config h names.job names.index) answer old new

-- its start keeps what the stack keeps
abbrev pub StartKeeps : DeskState → DeviceOp → Instance → DeviceTold → Clock → DeviceTold → Clock → Type 0
StartKeeps desk op i old clock new clock_new =
    (h : HandState) → Names desk.config (state_of desk) h op i → h.step ≡ step.Device op i → IsInHand desk.config (state_of desk) h old
    → StaysKept desk (Some h) old clock desk (Some (with_start h)) new clock_new

-- the device takes the write of what the job in hand has, or refuses it
abbrev pub IsWritten : Result (Unit {0}) DeviceRefusal → DeskState → ℕ → DeviceTold → DeviceTold → Type 0
IsWritten answer desk number old new =
    (j : Job) (x : List ℕ × ℕ) → (state_of desk).hand ≡ Some j → j.content ≡ Some x
    → AcceptsAs (write_wish number x.0 (rank_of desk.config j).immediate) answer old new

-- that start keeps it too, where the write is what the hand names
abbrev pub WriteKeeps : DeskState → ℕ → DeviceTold → Clock → DeviceTold → Clock → Type 0
WriteKeeps desk number old clock new clock_new =
    (h : HandState) (op : DeviceOp) (i : Instance) (names : Names desk.config (state_of desk) h op i) (x : List ℕ × ℕ) → h.step ≡ step.Device op i
    → IsInHand desk.config (state_of desk) h old → names.job.content ≡ Some x
    → (write_wish number x.0 (rank_of desk.config names.job).immediate).job ≡ job_for desk.config names.job h.program names.index
    → StaysKept desk (Some h) old clock desk (Some (with_start h)) new clock_new

-- only the open job changes, with what it may settle and the turns that it takes: no operation is made and no fault counted
abbrev pub LeavesDevice : DeviceTold → DeviceTold → Type 0
LeavesDevice old new = new ≡ record old { slots = new.slots; stand = new.stand; left = new.left; ready = new.ready; wait = new.wait }
