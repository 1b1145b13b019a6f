-- Laws of a device whose banks follow the bytes of its flash: what that is for, what gives it, and what keeps it.
use Rattle.std.specs.Prelude.{◌≡◌, ◌⊎◌, ◌≤◌, ◌+◌, ℕ, min, true, false, IsTrue, is_some, List, length, Option, Some, None, IfSome}
use Rattle.nv_base.specs.declared.instance.DeviceNumber.{DeviceNumber}
use Rattle.fls_model.specs.declared.flash.FlashAnswer.{FlashAnswer}
use Rattle.fls_model.specs.declared.flash.FlashAnswer.TheVariants.{Done}
use Rattle.fls_model.specs.Attach.{AreBytesOf}
use Rattle.memif.specs.Told.{is_open}
use Rattle.memif.specs.Calls.{is_read, pages_open, pages_urgent, pages_needed}
use Rattle.fls_model.specs.Told.{Told, bytes_now}
use Rattle.fls_jobs.specs.State.{FlsState}
use Rattle.fee_image.specs.Image.{bank_in}
use Rattle.fee_image.specs.RecordList.{IsClosed, end_of}
use Rattle.fee_switch_laws.specs.fee_log.Log.{IsLogState, work_in, is_closed}
use Rattle.fee_switch_laws.specs.fee_log.Step.{given_up}
use Rattle.fee_course.specs.declared.course.Course.{Course}
use Rattle.fee_course.specs.declared.course.Course.TheVariants.{Copy}
use Rattle.fee_switch_laws.specs.fee_switch.Banks.{BanksState, IsBanksState, FindsActive, LoadsActive, reads_next, after_answer}
use Rattle.fee_switch_laws.specs.Shown.{layout_in}
use Rattle.promise_device.specs.Making.{Making}
use Rattle.promise_device.specs.Bridge.{may_be_closed, free_pages, reading_of}
use Rattle.promise_device.specs.Room.{TellsWork}
use Rattle.fee_told.specs.fls_told.Device.{is_told_sound}
use Rattle.fee_told.specs.Device.{told_of}
use Rattle.fee_laws.specs.declared.job.FeeJob.{FeeJob}
use Rattle.fee_laws.specs.Inside.{Parts, device_of}
use Rattle.fee_laws.specs.Turn.{IsOn, operated}
use Rattle.fee_laws.specs.Appends.{IsAppending, after_page}
use Rattle.fee_laws.specs.Begins.{MayBegin, MaySwitch, begun_with, switching_with}
use Rattle.fee_laws.specs.Reads.{IsReading, IsAsked}
use Rattle.fee_laws.specs.Switches.{IsStepping, step_op, failed_with}
use Rattle.fee_laws.specs.Worn.{KnowsRoom}
use Rattle.fee_laws.specs.Follows.{Follows}
use Rattle.fee_laws.specs.SwitchTold.{TellsSwitch}

-- WHAT IT IS FOR
-- where no record is in work and no switch is open, it gives what a device that is worn out has to know
abbrev pub RoomIsKnown : Type 0
RoomIsKnown =
    (m : Making) (entry : Told) (s : Parts) (listed : List (DeviceNumber × ℕ)) (kept count : ℕ)
    → IsOn m entry s listed kept count → work_in s.banks.log.tail ≡ None → s.banks.course ≡ None → Follows s
    → IfSome s.fls.flash.bytes (λ b. KnowsRoom m entry s b.now)

-- and with no switch open it gives what the bytes say of what the device tells of its room and its turns
abbrev pub RoomIsTold : Type 0
RoomIsTold =
    (m : Making) (entry : Told) (s : Parts) (listed : List (DeviceNumber × ℕ)) (kept count : ℕ)
    → IsOn m entry s listed kept count → s.banks.course ≡ None → Follows s
    → IfSome s.fls.flash.bytes (λ b. TellsWork m (may_be_closed s.operations) b.now (told_of (device_of m entry s)))

-- so a job other than a read takes no more turns than the pages of its record, where the bytes have free what it needs
abbrev pub RoomIsEnough : Type 0
RoomIsEnough =
    (m : Making) (entry : Told) (s : Parts) (listed : List (DeviceNumber × ℕ)) (kept count : ℕ)
    → IsOn m entry s listed kept count → s.banks.course ≡ None → Follows s
    → let d = told_of (device_of m entry s) in
    is_open d.stand ≡ true → is_read d.stand ≡ false
    → IfSome s.fls.flash.bytes (λ b. pages_needed d.fixed d.stand ≤ free_pages m s.operations b.now → d.left ≤ pages_open d.fixed d.stand)

-- and from a sound image on that what the bytes have free is ready, as far as it is kept, beside the record of an urgent job
abbrev pub FreeIsReady : Type 0
FreeIsReady =
    (m : Making) (entry : Told) (s : Parts) (listed : List (DeviceNumber × ℕ)) (kept count : ℕ)
    → IsOn m entry s listed kept count → Follows s → IsTrue (is_told_sound (reading_of m) (bytes_now entry))
    → let d = told_of (device_of m entry s) in
    IfSome s.fls.flash.bytes (λ b. min m.reserve (free_pages m s.operations b.now) ≤ d.ready + pages_urgent d.fixed d.stand)

-- and beside an open switch, of the turns that are left, what the bytes say of the switch
abbrev pub SwitchIsTold : Type 0
SwitchIsTold =
    (m : Making) (entry : Told) (s : Parts) (listed : List (DeviceNumber × ℕ)) (kept count : ℕ)
    → IsOn m entry s listed kept count → is_some s.banks.course ≡ true → Follows s → IsTrue (is_told_sound (reading_of m) (bytes_now entry))
    → IfSome s.fls.flash.bytes (λ b. TellsSwitch m s.operations b.now (told_of (device_of m entry s)))

-- WHAT GIVES IT
-- a device that isn't started, as it was made or behind a start-up that failed
abbrev pub UnstartedFollows : Type 0
UnstartedFollows = (s : Parts) → s.started ≡ false → Follows s

-- the log that is loaded is closed only where its bank is
abbrev pub ClosesActive : List ℕ → BanksState → Type 0
ClosesActive bytes s = IfSome s.active (λ a. is_closed s.log.tail ≡ true → (let b = bank_in (layout_in s) a.head.format a.bank in IsClosed b bytes (end_of b bytes)))

-- a start-up found the banks in the bytes
pub record IsFoundIn (s : Parts) : Type 0 where
  pub state : IsBanksState s.banks
  pub shut : s.banks.course ≡ None
  pub bytes : IfSome s.fls.flash.bytes (λ b. AreBytesOf s.banks.geometry b.now)
  pub finds : IfSome s.fls.flash.bytes (λ b. FindsActive b.now s.banks)
  pub loads : IfSome s.fls.flash.bytes (λ b. LoadsActive b.now s.banks)
  pub closes : IfSome s.fls.flash.bytes (λ b. ClosesActive b.now s.banks)

abbrev pub StartsFollow : Type 0
StartsFollow = (s : Parts) → IsFoundIn s → Follows s

-- WHAT KEEPS IT
-- the same banks, bytes and operations; the content may differ while no record is in work
pub record IsSameBeside (s t : Parts) : Type 0 where
  pub started : t.started ≡ true → s.started ≡ true
  pub on : t.fls.flash.off ≡ false → s.fls.flash.off ≡ false
  pub banks : t.banks ≡ s.banks
  pub bytes : t.fls.flash.bytes ≡ s.fls.flash.bytes
  pub content : (t.content ≡ s.content) ⊎ (work_in s.banks.log.tail ≡ None)
  pub operations : t.operations ≡ s.operations

abbrev pub SameFollow : Type 0
SameFollow = (s t : Parts) → IsSameBeside s t → Follows s → Follows t

-- a job that waits ends with a failure, or none does
abbrev pub FailedFollow : Type 0
FailedFollow = (s : Parts) (job : Option FeeJob) → Follows s → Follows (failed_with job s)

-- a record in work is given up
abbrev pub GivenUpFollows : Type 0
GivenUpFollows = (s : Parts) → IsLogState s.banks.log → Follows s → Follows (record s { banks = record s.banks { log = given_up s.banks.log } })

-- a record begins, and a switch
abbrev pub BegunFollows : Type 0
BegunFollows =
    (m : Making) (entry : Told) (s : Parts) (listed : List (DeviceNumber × ℕ)) (kept count : ℕ) (j : FeeJob)
    → IsOn m entry s listed kept count → (may : MayBegin m s j) → Follows s → Follows (begun_with may.kind j s)

abbrev pub SwitchingFollows : Type 0
SwitchingFollows =
    (m : Making) (entry : Told) (s : Parts) (listed : List (DeviceNumber × ℕ)) (kept count : ℕ) (j : FeeJob)
    → IsOn m entry s listed kept count → MaySwitch m s j → Follows s → Follows (switching_with s)

-- the next page of a record in work, whatever the answer
abbrev pub PagesFollow : Type 0
PagesFollow =
    (m : Making) (entry : Told) (s : Parts) (listed : List (DeviceNumber × ℕ)) (kept count : ℕ) (answer : FlashAnswer) (f : FlsState)
    → IsAppending m entry s listed kept count answer f → Follows s → Follows (after_page answer f s)

-- the next operation of an open switch, whatever the answer, but for the read of a content
abbrev pub StepsFollow : Type 0
StepsFollow =
    (m : Making) (entry : Told) (s : Parts) (listed : List (DeviceNumber × ℕ)) (kept count : ℕ) (c : Course) (made : BanksState) (answer : FlashAnswer) (f : FlsState)
    → IsStepping m entry s listed kept count c made answer f → reads_next s.banks.log (Some c) ≡ false → Follows s
    → Follows (operated (step_op s.banks c) answer f (after_answer made c answer) s)

-- and that read
abbrev pub CopiesFollow : Type 0
CopiesFollow =
    (m : Making) (entry : Told) (s : Parts) (listed : List (DeviceNumber × ℕ)) (kept count : ℕ) (made : BanksState) (answer : FlashAnswer) (f : FlsState)
    → IsStepping m entry s listed kept count (Copy None) made answer f → reads_next s.banks.log (Some (Copy None)) ≡ true
    → (answer ≡ Done → length made.buffer ≡ length s.banks.buffer) → Follows s
    → Follows (record s { fls = f; banks = after_answer made (Copy None) answer })

-- the read of a job, whatever the answer
abbrev pub ReadsFollow : Type 0
ReadsFollow =
    (m : Making) (entry : Told) (s : Parts) (listed : List (DeviceNumber × ℕ)) (kept count : ℕ) (j : FeeJob) (at writes : ℕ) (content : List ℕ) (answer : FlashAnswer) (f : FlsState)
    → IsReading m entry s listed kept count j → IsAsked s j at writes content answer f → Follows s → Follows (record s { fls = f; content = content })
