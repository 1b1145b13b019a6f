-- By when an immediate write is posted.
use Rattle.std.specs.Prelude.{◌≡◌, ◌⊎◌, ◌<◌, ◌≤◌, ◌+◌, ℕ, Bool, true, false, List, length, if◌then◌else◌, Option, Some, None, IfSome}
use Rattle.memif.specs.Told.{DeviceTold, Fixed, First, figures_at}
use Rattle.block_machine.specs.nv_base.Marks.{number_of}
use Rattle.block_machine.specs.block_config.Sizes.{instances_of}
use Rattle.block_machine.specs.Words.{JobKind, WriteJob, ReqResult, Post, Configuration}
use Rattle.block_machine.specs.State.{Job}
use Rattle.block_machine.specs.Blocks.{desc_of, indices_of, job_block, kind_of, rank_of}
use Rattle.block_machine.specs.Next.{next_in}
use Rattle.nvm_figures.specs.Urgent.{pages_ahead, pages_of}
use Rattle.nv_desk_copies.specs.nv_desk.Desk.{DeskState, state_of}
use Rattle.job_progress.specs.Hand.{HandState, is_finished}
use Rattle.nvm_laws.specs.Halves.{Adds}

-- what a stack is between its calls: the history, the job in hand, and what its device tells
pub record StackNow : Type 0 where
  pub desk : DeskState
  pub hand : Option HandState
  pub device : DeviceTold

-- all numbers of a block, of which there are 64, are of the first part
abbrev pub IsFirstBlock : Fixed → ℕ → Type 0
IsFirstBlock f block = (index : ℕ) → index ≤ 63 → (figures_at f (number_of (record { block = block; index = index }))).part ≡ First

-- it is an urgent write of a block of the first part with so many instances
pub record IsFirstWrite (f : Fixed) (urgent : Bool) (block instances : ℕ) (kind : JobKind) : Type 0 where
  pub is_urgent : urgent ≡ true
  pub is_write : kind ≡ WriteJob
  pub few : instances ≤ 64
  pub of_first : IsFirstBlock f block

-- an immediate write of a block of the first part, which the entry with this number accepted
pub record IsUrgentJob (number : ℕ) (c : Configuration) (f : Fixed) (j : Job) : Type 0 where
  pub accepted : j.number ≡ number
  pub urgent : IsFirstWrite f (rank_of c j).immediate (job_block j) (instances_of (desc_of c (job_block j))) (kind_of j)

-- the pages of the records of a write of a block, at its data index
abbrev pub pages_now : DeskState → Fixed → ℕ → ℕ
pages_now desk f block = pages_of f block (indices_of desk.config (state_of desk) block)

-- the turn that goes to the Post of a job in hand that is finished
abbrev pub post_first : Option HandState → ℕ
post_first None = 0
post_first (Some h) = if is_finished h.step then 1 else 0

-- It is the next job, the one in hand, if there is one, is a standard one, and the pages of its records are ready: it takes
-- these pages and four turns, behind the Post of a finished job.
pub record IsDueNext (number turns : ℕ) (now : StackNow) : Type 0 where
  pub job : Job
  pub is : IsUrgentJob number now.desk.config now.device.fixed job
  pub earlier : number < length now.desk.entries
  pub next : next_in now.desk.config (state_of now.desk).waiting ≡ Some job
  pub standard : IfSome (state_of now.desk).hand (λ h. (rank_of now.desk.config h).immediate ≡ false)
  pub ready : pages_now now.desk now.device.fixed (job_block job) ≤ now.device.ready
  pub within : pages_now now.desk now.device.fixed (job_block job) + 4 + post_first now.hand ≤ turns

-- It is in hand: what the device tells that it waits for, the pages of its records that aren't taken yet, which are ready, and
-- its Post take so many turns.
pub record IsDueInHand (number turns : ℕ) (now : StackNow) : Type 0 where
  pub job : Job
  pub is : IsUrgentJob number now.desk.config now.device.fixed job
  pub held : (state_of now.desk).hand ≡ Some job
  pub driver : HandState
  pub drives : now.hand ≡ Some driver
  pub ready : pages_ahead driver.program now.device ≤ now.device.ready
  pub within : (w : ℕ) × (now.device.wait ≡ Some w) × (w + pages_ahead driver.program now.device + 1 ≤ turns)

-- the write that the entry with this number accepted is posted within so many turns, while no fault, no cut and no start-up
-- comes
abbrev pub IsDue : (number turns : ℕ) → StackNow → Type 0
IsDue number turns now = IsDueNext number turns now ⊎ IsDueInHand number turns now

-- it was in hand, and its Post is added
pub record PostsDue (number : ℕ) (old new : DeskState) : Type 0 where
  pub job : Job
  pub held : (state_of old).hand ≡ Some job
  pub accepted : job.number ≡ number
  pub result : ReqResult
  pub given : Option (List ℕ)
  pub refused : ℕ
  pub ops : ℕ
  pub adds : Adds (Post (job_block job) result given refused ops) old new

-- it is due a turn sooner
abbrev pub IsNearer : (number turns : ℕ) → StackNow → Type 0
IsNearer number turns now = (less : ℕ) × (turns ≡ less + 1) × IsDue number less now
