-- The turns of a record in work.
use Rattle.std.specs.Prelude.{◌≡◌, ℕ, true, false, List, IsSome}
use Rattle.nv_base.specs.Count.{next_count}
use Rattle.nv_base.specs.declared.instance.DeviceNumber.{DeviceNumber}
use Rattle.memif.specs.declared.answer.DeviceTurn.TheVariants as turn
use Rattle.memif.specs.declared.answer.JobResult.TheVariants.{JobOk, JobFailed}
use Rattle.fls_model.specs.declared.flash.FlashAnswer.{FlashAnswer}
use Rattle.fls_model.specs.declared.flash.FlashAnswer.TheVariants.{Done, Failed, Off}
use Rattle.fls_model.specs.Op.{Op}
use Rattle.fls_model.specs.Step.{IsStep}
use Rattle.fls_model.specs.Told.{Told}
use Rattle.fls_jobs.specs.State.{FlsState}
use Rattle.fee_switch_laws.specs.fee_log.Log.{work_in}
use Rattle.fee_switch_laws.specs.fee_log.Step.{IsPageOf, due_bytes, op_of, after_step, commits}
use Rattle.promise_device.specs.Making.{Making}
use Rattle.fee_laws.specs.Inside.{Parts, body_of}
use Rattle.fee_laws.specs.Turn.{IsOn, Drives, operated, ended_as, Turned}

-- the content of the record in work, and the operation that comes next
abbrev pub work_body : Parts → List ℕ
work_body s = body_of (work_in s.banks.log.tail) s.content

abbrev pub work_op : Parts → Op
work_op s = op_of s.banks.log (work_body s)

-- a record is in work, and its next page, or the gate that it waits for, was programmed
pub record IsAppending (m : Making) (entry : Told) (s : Parts) (listed : List (DeviceNumber × ℕ)) (kept count : ℕ) (answer : FlashAnswer) (f : FlsState) : Type 0 where
  pub on : IsOn m entry s listed kept count
  pub work : IsSome (work_in s.banks.log.tail)
  pub drives : Drives s.fls f
  pub step : IsStep (work_op s) s.fls.flash answer f.flash
  pub page : IsPageOf s.banks.geometry.page (due_bytes s.banks.log (work_body s))

abbrev pub after_page : FlashAnswer → FlsState → Parts → Parts
after_page answer f s = operated (work_op s) answer f (record s.banks { log = after_step s.banks.log answer }) s

-- the record goes on
abbrev pub AppendsGoOn : Type 0
AppendsGoOn =
    (m : Making) (entry : Told) (s : Parts) (listed : List (DeviceNumber × ℕ)) (kept count : ℕ) (f : FlsState)
    → IsAppending m entry s listed kept count Done f → commits s.banks.geometry.page s.banks.log.tail ≡ false
    → Turned m entry turn.Worked s (after_page Done f s) listed kept (next_count count) false

-- it is committed
abbrev pub AppendsCommit : Type 0
AppendsCommit =
    (m : Making) (entry : Told) (s : Parts) (listed : List (DeviceNumber × ℕ)) (kept count : ℕ) (f : FlsState)
    → IsAppending m entry s listed kept count Done f → commits s.banks.geometry.page s.banks.log.tail ≡ true
    → Turned m entry turn.Worked s (ended_as JobOk (after_page Done f s)) listed kept (next_count count) false

-- the page failed, and the job with it
abbrev pub AppendsFail : Type 0
AppendsFail =
    (m : Making) (entry : Told) (s : Parts) (listed : List (DeviceNumber × ℕ)) (kept count : ℕ) (f : FlsState)
    → IsAppending m entry s listed kept count Failed f
    → Turned m entry turn.Worked s (ended_as JobFailed (after_page Failed f s)) listed kept (next_count count) false

-- the power went off
abbrev pub AppendsAreCut : Type 0
AppendsAreCut =
    (m : Making) (entry : Told) (s : Parts) (listed : List (DeviceNumber × ℕ)) (kept count : ℕ) (f : FlsState)
    → IsAppending m entry s listed kept count Off f
    → Turned m entry turn.Off s (after_page Off f s) listed kept (next_count count) true
