-- What a turn makes of the fields of a device.
use Rattle.std.specs.Prelude.{◌≡◌, ◌<◌, ◌++◌, ◌∷◌, [], ℕ, Bool, true, false, List, length, take, slice_set, Option, Some, None, unwrap_or}
use Rattle.std.specs.List.{All}
use Rattle.nv_base.specs.Count.{next_count}
use Rattle.nv_base.specs.declared.job.DeviceOp.{DeviceOp}
use Rattle.nv_base.specs.declared.job.DeviceOp.TheVariants.{Read}
use Rattle.memif.specs.declared.answer.DeviceTurn.{DeviceTurn}
use Rattle.memif.specs.declared.answer.DeviceTurn.TheVariants as turn
use Rattle.memif.specs.declared.answer.JobResult.{JobResult}
use Rattle.memif.specs.declared.answer.JobResult.TheVariants.{JobOk, JobFailed, BlockInconsistent, BlockInvalid}
use Rattle.memif.specs.Told.{IfElse}
use Rattle.fls_model.specs.declared.flash.FlashAnswer.{FlashAnswer}
use Rattle.fls_model.specs.declared.flash.FlashAnswer.TheVariants.{Done, Failed, Off}
use Rattle.fls_model.specs.Op.{Op}
use Rattle.fls_model.specs.Read.{IsRead}
use Rattle.fls_model.specs.Step.{IsStep}
use Rattle.fls_jobs.specs.CallOf.{closed_as}
use Rattle.fls_jobs.specs.State.{FlsState}
use Rattle.fls_told.specs.Clock.{change_of, turn_of}
use Rattle.fls_told.specs.Runs.{counts_fault}
use Rattle.fee_format.specs.declared.rec_head.RecordKind.{RecordKind}
use Rattle.fee_format.specs.declared.rec_head.RecordKind.TheVariants as kind
use Rattle.fee_format.specs.Pages.{body_pages_of}
use Rattle.ea_image.specs.declared.memory.SlotMemory.{SlotMemory}
use Rattle.ea_image.specs.declared.slot_head.SlotHead.{SlotHead}
use Rattle.ea_image.specs.declared.step.SlotStep.{SlotStep}
use Rattle.ea_image.specs.declared.step.SlotStep.TheVariants.{Gate}
use Rattle.ea_image.specs.Memory.{memory_done, memory_failed}
use Rattle.ea_image.specs.Slots.{other, body_sector, place_of_page}
use Rattle.ea_image.specs.Steps.{step_op, step_next}
use Rattle.ea_told.specs.declared.job.EaJob.{EaJob}
use Rattle.ea_told.specs.declared.state.SlotState.{SlotState}
use Rattle.ea_told.specs.Parts.{Parts}
use Rattle.ea_told.specs.Device.{state_at, can_write, head_of}

-- A JOB ENDS
abbrev pub ended_as : JobResult → Parts → Parts
ended_as came_to s = record s { job = None; last = came_to; given = 0 }

-- A READ
abbrev pub read_done : EaJob → FlsState → List ℕ → Parts → Parts
read_done j f content s = record s { fls = f; content = content; job = None; last = JobOk; given = j.length }

abbrev pub read_failed : FlsState → List ℕ → Parts → Parts
read_failed f content s = record s { fls = f; content = content; job = None; last = JobFailed; given = 0; faults = next_count s.faults }

abbrev pub read_as : FlashAnswer → EaJob → FlsState → List ℕ → Parts → Parts
read_as Done j f content s = read_done j f content s
read_as Failed j f content s = read_failed f content s
read_as Off j f content s = read_failed f content s

-- the content of the settled slot, by one flash read
pub record ReadsContent (s : Parts) (j : EaJob) (t : Parts) : Type 0 where
  pub answer : FlashAnswer
  pub fls : FlsState
  pub content : List ℕ
  pub read : IsRead (place_of_page s.geometry (body_sector j.place (other (state_at s.states j.place).memory.target)) 0) s.fls.flash (take j.length s.content) answer (take j.length content) fls.flash
  pub only : fls ≡ record s.fls { flash = fls.flash; result = closed_as answer }
  pub room : length content ≡ length s.content
  pub small : All (λ x. x < 256) content
  pub after : t ≡ read_as answer j fls content s

abbrev pub ReadsKind : RecordKind → Parts → EaJob → Parts → Type 0
ReadsKind kind.Content s j t = ReadsContent s j t
ReadsKind kind.Invalid s j t = t ≡ ended_as BlockInvalid s
ReadsKind kind.Erased s j t = t ≡ ended_as BlockInconsistent s

abbrev pub ReadsHead : Option SlotHead → Parts → EaJob → Parts → Type 0
ReadsHead None s j t = t ≡ ended_as BlockInconsistent s
ReadsHead (Some h) s j t = ReadsKind h.kind s j t

-- A STEP OF A WRITE
abbrev pub memory_after : FlashAnswer → SlotStep → SlotHead → SlotMemory → SlotMemory
memory_after Done step h m = memory_done step h m
memory_after Failed step h m = memory_failed step h m
memory_after Off step h m = memory_failed step h m

abbrev pub states_after : FlashAnswer → EaJob → List SlotState → List SlotState
states_after answer j states =
    let s = state_at states j.place in slice_set states j.place (record { memory = memory_after answer j.step (head_of j s) s.memory; worn = s.worn })

-- the job once a step was done
abbrev pub job_done : (pages : ℕ) → EaJob → SlotStep → Option EaJob
job_done pages j Gate = None
job_done pages j step = Some (record j { step = step_next pages step })

abbrev pub job_after : FlashAnswer → (pages : ℕ) → EaJob → Option EaJob
job_after Done pages j = job_done pages j j.step
job_after Failed pages j = None
job_after Off pages j = Some j

abbrev pub last_done : SlotStep → JobResult → JobResult
last_done Gate last = JobOk
last_done step last = last

abbrev pub last_after : FlashAnswer → SlotStep → JobResult → JobResult
last_after Done step last = last_done step last
last_after Failed step last = JobFailed
last_after Off step last = last

abbrev pub given_done : SlotStep → ℕ → ℕ
given_done Gate given = 0
given_done step given = given

abbrev pub given_after : FlashAnswer → SlotStep → ℕ → ℕ
given_after Done step given = given_done step given
given_after Failed step given = 0
given_after Off step given = given

abbrev pub off_after : FlashAnswer → Bool → Bool
off_after Off off = true
off_after answer off = off

-- the operation of the next step
abbrev pub job_op : Parts → EaJob → Op
job_op s j = let state = state_at s.states j.place in step_op s.geometry j.place state.memory.target (head_of j state) (take j.length s.content) j.step

abbrev pub stepped : FlashAnswer → EaJob → FlsState → Parts → Parts
stepped answer j f s = record s {
  fls = f;
  states = states_after answer j s.states;
  job = job_after answer (body_pages_of j.length s.geometry.page) j;
  last = last_after answer j.step s.last;
  given = given_after answer j.step s.given;
  off = off_after answer s.off;
  ops = next_count s.ops;
  faults = counts_fault answer s.faults;
  operations = s.operations ++ change_of (job_op s j) s.fls.flash answer ∷ [];
}

pub record TakesStep (turned : DeviceTurn) (s : Parts) (j : EaJob) (t : Parts) : Type 0 where
  pub answer : FlashAnswer
  pub fls : FlsState
  pub step : IsStep (job_op s j) s.fls.flash answer fls.flash
  pub only : fls ≡ record s.fls { flash = fls.flash; result = closed_as answer }
  pub after : t ≡ stepped answer j fls s
  pub is : turned ≡ turn_of answer

-- without a flash call: the number is worn out from now on
abbrev pub worn_after : EaJob → Parts → Parts
worn_after j s = let state = state_at s.states j.place in
    ended_as JobFailed (record s { states = slice_set s.states j.place (record { memory = state.memory; worn = Some (unwrap_or state.worn s.ops) }) })

-- A TURN
abbrev pub WritesTurn : Bool → DeviceTurn → Parts → EaJob → Parts → Type 0
WritesTurn true turned s j t = TakesStep turned s j t
WritesTurn false turned s j t = (turned ≡ turn.Worked) × (t ≡ worn_after j s)

abbrev pub TurnsOp : DeviceOp → DeviceTurn → Parts → EaJob → Parts → Type 0
TurnsOp Read turned s j t = (turned ≡ turn.Worked) × ReadsHead (state_at s.states j.place).memory.settled s j t
TurnsOp op turned s j t = WritesTurn (can_write (state_at s.states j.place)) turned s j t

abbrev pub TurnsJob : Option EaJob → DeviceTurn → Parts → Parts → Type 0
TurnsJob None turned s t = (turned ≡ turn.Idle) × (t ≡ s)
TurnsJob (Some j) turned s t = IfElse s.off ((turned ≡ turn.Off) × (t ≡ s)) (TurnsOp j.op turned s j t)
