-- The turns of an open switch.
use Rattle.std.specs.Prelude.{◌≡◌, ◌≢◌, ◌<◌, ℕ, true, false, List, [], length, take, slice_get, Option, Some, None, IfSome}
use Rattle.std.specs.List.{All}
use Rattle.nv_base.specs.Count.{next_count}
use Rattle.nv_base.specs.declared.instance.DeviceNumber.{DeviceNumber}
use Rattle.nv_base.specs.declared.job.DeviceOp.TheVariants.{Read}
use Rattle.memif.specs.declared.answer.DeviceTurn.TheVariants as turn
use Rattle.memif.specs.declared.answer.JobResult.TheVariants.{JobFailed}
use Rattle.fls_model.specs.declared.flash.FlashAnswer.{FlashAnswer}
use Rattle.fls_model.specs.declared.flash.FlashAnswer.TheVariants.{Done, Failed, Off}
use Rattle.fls_model.specs.Op.{Op, Erase as Erases}
use Rattle.fls_model.specs.Told.{Told}
use Rattle.fls_jobs.specs.State.{FlsState}
use Rattle.fee_format.specs.declared.rec_head.RecHead.{RecHead}
use Rattle.fee_image.specs.declared.place.Place.{Place}
use Rattle.fee_switch_laws.specs.fee_log.Log.{LogState, IsLogState, work_in, begun}
use Rattle.fee_switch_laws.specs.fee_log.Step.{op_of}
use Rattle.fee_course.specs.declared.copies.Source.{Source}
use Rattle.fee_course.specs.declared.course.Course.{Course}
use Rattle.fee_course.specs.declared.course.Course.TheVariants.{Erase, Copy, Head, Gate}
use Rattle.fee_course.specs.Copies.{next_copy}
use Rattle.fee_switch_laws.specs.fee_switch.declared.target.Stage.{Stage}
use Rattle.fee_switch_laws.specs.fee_switch.declared.target.Stage.TheVariants as stage
use Rattle.fee_switch_laws.specs.fee_switch.Target.{op_at}
use Rattle.fee_switch_laws.specs.fee_switch.Banks.{BanksState, target_at, reads_next, after_answer}
use Rattle.fee_switch_laws.specs.fee_switch.Copy.{MakesNext, head_at}
use Rattle.promise_device.specs.Making.{Making}
use Rattle.fee_laws.specs.declared.job.FeeJob.{FeeJob}
use Rattle.fee_laws.specs.Inside.{Parts}
use Rattle.fee_laws.specs.Work.{begins_next}
use Rattle.fee_laws.specs.Turn.{IsOn, Drives, operated, ended_as, Turned}

-- THE OPERATION
-- none
abbrev pub nothing : Op
nothing = Erases 0 0

abbrev pub op_in : BanksState → Stage → Op
op_in s at = op_at (target_at s at) at

-- of the header of the record that copies a mark
abbrev pub mark_op_for : LogState → Place → Option (DeviceNumber × ℕ) → Op
mark_op_for copies place None = nothing
mark_op_for copies place (Some n) = op_of (begun copies (head_at place n.0 n.1)) []

abbrev pub mark_op_of : BanksState → Option Source → Op
mark_op_of s None = nothing
mark_op_of s (Some source) = mark_op_for s.copies source.place (slice_get s.log.numbers source.index)

-- of the copy in work, whose content stands in the buffer
abbrev pub copy_op_of : BanksState → Option RecHead → Op
copy_op_of s None = nothing
copy_op_of s (Some h) = op_of s.copies (take h.length s.buffer)

-- of the next step of a switch that has come so far
abbrev pub step_op : BanksState → Course → Op
step_op s (Erase done) = op_in s (stage.Erase done)
step_op s (Copy None) = mark_op_of s (next_copy s.log.numbers s.log.places s.log.flags)
step_op s (Copy (Some w)) = copy_op_of s (work_in s.copies.tail)
step_op s Head = op_in s stage.Head
step_op s (Gate failed) = op_in s stage.Gate

-- THE STEP
-- a job waits behind the switch: it isn't a read, and its record doesn't begin next
abbrev pub IsBehind : BanksState → FeeJob → Type 0
IsBehind s j = (j.op ≢ Read) × (begins_next s j ≡ false)

-- a switch is open that has come so far, no record is in work, and its next step was made
pub record IsStepping (m : Making) (entry : Told) (s : Parts) (listed : List (DeviceNumber × ℕ)) (kept count : ℕ) (c : Course) (made : BanksState) (answer : FlashAnswer) (f : FlsState) : Type 0 where
  pub on : IsOn m entry s listed kept count
  pub course : s.banks.course ≡ Some c
  pub copies : IsLogState s.banks.copies
  pub bytes : All (λ x. x < 256) s.banks.buffer
  pub idle : work_in s.banks.log.tail ≡ None
  pub behind : IfSome s.job (IsBehind s.banks)
  pub drives : Drives s.fls f
  pub makes : MakesNext s.banks c s.fls.flash answer made f.flash

-- a job that waits ends with a failure of the switch
abbrev pub failed_with : Option FeeJob → Parts → Parts
failed_with None s = s
failed_with (Some j) s = ended_as JobFailed s

-- what a turn in which it had this answer comes to: the switch goes on, or ends with its gate, it failed, or the power went off
abbrev pub StepTurned : FlashAnswer → Making → Told → Parts → List (DeviceNumber × ℕ) → ℕ → ℕ → Course → BanksState → FlsState → Type 0
StepTurned Done m entry s listed kept count c made f = Turned m entry turn.Worked s (operated (step_op s.banks c) Done f (after_answer made c Done) s) listed kept (next_count count) false
StepTurned Failed m entry s listed kept count c made f =
    Turned m entry turn.Worked s (failed_with s.job (operated (step_op s.banks c) Failed f (after_answer made c Failed) s)) listed kept (next_count count) false
StepTurned Off m entry s listed kept count c made f = Turned m entry turn.Off s (operated (step_op s.banks c) Off f (after_answer made c Off) s) listed kept (next_count count) true

-- AN ERASE, A PAGE OF THE COPY IN WORK, THE HEAD, THE GATE
-- any step but the first one of a copy
abbrev pub IsWithin : Course → Type 0
IsWithin (Copy None) = ⊥
IsWithin _ = Unit {0}

abbrev pub SwitchesTurn : FlashAnswer → Type 0
SwitchesTurn answer =
    (m : Making) (entry : Told) (s : Parts) (listed : List (DeviceNumber × ℕ)) (kept count : ℕ) (c : Course) (made : BanksState) (f : FlsState)
    → IsStepping m entry s listed kept count c made answer f → IsWithin c → StepTurned answer m entry s listed kept count c made f

-- THE HEADER OF A MARK'S COPY
abbrev pub MarksTurn : FlashAnswer → Type 0
MarksTurn answer =
    (m : Making) (entry : Told) (s : Parts) (listed : List (DeviceNumber × ℕ)) (kept count : ℕ) (made : BanksState) (f : FlsState)
    → IsStepping m entry s listed kept count (Copy None) made answer f → reads_next s.banks.log (Some (Copy None)) ≡ false → StepTurned answer m entry s listed kept count (Copy None) made f

-- A READ
-- the content that is copied next was read, to the buffer's front
abbrev pub CopiesAreRead : Type 0
CopiesAreRead =
    (m : Making) (entry : Told) (s : Parts) (listed : List (DeviceNumber × ℕ)) (kept count : ℕ) (made : BanksState) (f : FlsState)
    → IsStepping m entry s listed kept count (Copy None) made Done f → reads_next s.banks.log (Some (Copy None)) ≡ true → length made.buffer ≡ length s.banks.buffer
    → Turned m entry turn.Worked s (record s { fls = f; banks = after_answer made (Copy None) Done }) listed kept count false

-- or not
abbrev pub CopiesAreNotRead : Type 0
CopiesAreNotRead =
    (m : Making) (entry : Told) (s : Parts) (listed : List (DeviceNumber × ℕ)) (kept count : ℕ) (made : BanksState) (f : FlsState)
    → IsStepping m entry s listed kept count (Copy None) made Failed f → reads_next s.banks.log (Some (Copy None)) ≡ true
    → Turned m entry turn.Worked s (failed_with s.job (record s { fls = f; banks = after_answer made (Copy None) Failed; faults = next_count s.faults })) listed kept count false
