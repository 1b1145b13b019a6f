-- The laws of a device over slots.
use Rattle.std.specs.Prelude.{◌≡◌, ◌≢◌, ◌<◌, ℕ, true, false, List, length, take, Result, Some, None}
use Rattle.std.specs.List.{All}
use Rattle.nv_base.specs.declared.job.DeviceOp.TheVariants.{Read}
use Rattle.memif.specs.declared.answer.DeviceTurn.{DeviceTurn}
use Rattle.memif.specs.declared.answer.StartFault.{StartFault}
use Rattle.memif.specs.Calls.{StartsUp, Opens, IsCanceled, ClockStays, Turns, InOrder, FreesReady, RoomIsLeft}
use Rattle.fls_model.specs.Told.{Told}
use Rattle.fls_jobs.specs.State.{FlsState}
use Rattle.fls_told.specs.Device.{flash_run}
use Rattle.fls_told.specs.Runs.{part_before}
use Rattle.promise_device.specs.Bridge.{Bridges}
use Rattle.ea_image.specs.declared.step.SlotStep.TheVariants.{EraseHead}
use Rattle.ea_told.specs.declared.job.EaJob.{EaJob}
use Rattle.ea_told.specs.Making.{Making, entry_of}
use Rattle.ea_told.specs.Parts.{Parts}
use Rattle.ea_told.specs.Reading.{reading_of}
use Rattle.ea_told.specs.Calls.{with_plan, opened, canceled}
use Rattle.ea_told.specs.Device.{state_at, can_write, mark_of, flash_device, told_of, clock_of}
use Rattle.ea_told.specs.Inside.{IsLengthOf, IsSound}
use Rattle.ea_told.specs.Made.{fresh, IsNew}
use Rattle.ea_told.specs.Start.{IsStart}
use Rattle.ea_told.specs.Turn.{TakesStep, TurnsJob}

-- A DEVICE
-- what is just made is sound
abbrev pub PartsBegin : Type 0
PartsBegin = (m : Making) (entry : Told) (f : FlsState) (content : List ℕ) → IsNew m entry f content → IsSound m entry (fresh m f content)

-- what is in order at any time
pub record TellsInOrder (m : Making) (entry : Told) (s : Parts) : Type 0 where
  pub order : InOrder (told_of m entry s) (clock_of m entry s)
  pub ready : FreesReady (told_of m entry s) (clock_of m entry s)
  pub room : RoomIsLeft (told_of m entry s) (clock_of m entry s)

abbrev pub PartsOrder : Type 0
PartsOrder = (m : Making) (entry : Told) (s : Parts) → IsSound m entry s → TellsInOrder m entry s

-- what it told of its flash is so
abbrev pub PartsBridge : Type 0
PartsBridge = (m : Making) (entry : Told) (s : Parts) → IsSound m entry s
    → Bridges (reading_of m) false (flash_run (flash_device m entry s)) (part_before (flash_device m entry s)) (told_of m entry s) (clock_of m entry s)

-- CALLS
-- it was started, or failed to
abbrev pub PartsStart : Type 0
PartsStart = (m : Making) (entry : Told) (answer : Result (Unit {0}) StartFault) (s t : Parts) → IsSound m entry s → IsStart m answer s t
    → StartsUp answer (told_of m entry s) (clock_of m entry s) (told_of m entry t) (clock_of m entry t) × IsSound m entry t

-- before a job opens, which begins with its first step
pub record MayOpen (m : Making) (entry : Told) (s : Parts) (j : EaJob) (content : List ℕ) : Type 0 where
  pub sound : IsSound m entry s
  pub started : s.started ≡ true
  pub shut : s.job ≡ None
  pub size : ℕ
  pub entry_is : entry_of m j.number.0 ≡ Some (j.place, (j.number, size))
  pub fits : IsLengthOf j.op j.length size
  pub step : j.step ≡ EraseHead
  pub room : length content ≡ length s.content
  pub small : All (λ x. x < 256) content

-- it took the job as a memory device does, and is sound
pub record TakesJob (m : Making) (entry : Told) (s : Parts) (j : EaJob) (content : List ℕ) : Type 0 where
  pub sound : IsSound m entry (opened j content s)
  pub opens : Opens (record { number = j.number.0; mark = mark_of j.op (take j.length content); urgent = j.urgent }) (told_of m entry s) (told_of m entry (opened j content s))
  pub stays : ClockStays (clock_of m entry s) (told_of m entry (opened j content s)) (clock_of m entry (opened j content s))

abbrev pub PartsOpen : Type 0
PartsOpen = (m : Making) (entry : Told) (s : Parts) (j : EaJob) (content : List ℕ) → MayOpen m entry s j content → TakesJob m entry s j content

-- it dropped its job so
pub record DropsJob (m : Making) (entry : Told) (s : Parts) : Type 0 where
  pub sound : IsSound m entry (canceled s)
  pub cancels : IsCanceled (told_of m entry s) (told_of m entry (canceled s))
  pub stays : ClockStays (clock_of m entry s) (told_of m entry (canceled s)) (clock_of m entry (canceled s))

abbrev pub PartsCancel : Type 0
PartsCancel = (m : Making) (entry : Told) (s : Parts) → IsSound m entry s → s.started ≡ true → DropsJob m entry s

-- it took the plan of a power cut so
pub record TakesPlan (m : Making) (entry : Told) (nth keep : ℕ) (s : Parts) : Type 0 where
  pub sound : IsSound m entry (with_plan nth keep s)
  pub stays : ClockStays (clock_of m entry s) (told_of m entry (with_plan nth keep s)) (clock_of m entry (with_plan nth keep s))

abbrev pub PartsPlan : Type 0
PartsPlan = (m : Making) (entry : Told) (nth keep : ℕ) (s : Parts) → IsSound m entry s → TakesPlan m entry nth keep s

-- TURNS
-- it turned as a memory device does, and is sound
pub record Turned (m : Making) (entry : Told) (turned : DeviceTurn) (s t : Parts) : Type 0 where
  pub turns : Turns turned (told_of m entry s) (clock_of m entry s) (told_of m entry t) (clock_of m entry t)
  pub sound : IsSound m entry t

-- before a step of its open job: its power is on, and the number can be written
pub record IsStepping (m : Making) (entry : Told) (s : Parts) (j : EaJob) : Type 0 where
  pub sound : IsSound m entry s
  pub job : s.job ≡ Some j
  pub writes : j.op ≢ Read
  pub on : s.off ≡ false
  pub writable : can_write (state_at s.states j.place) ≡ true

abbrev pub StepsTurn : Type 0
StepsTurn = (m : Making) (entry : Told) (turned : DeviceTurn) (s : Parts) (j : EaJob) (t : Parts) → IsStepping m entry s j → TakesStep turned s j t → Turned m entry turned s t

-- any turn
abbrev pub PartsTurn : Type 0
PartsTurn = (m : Making) (entry : Told) (turned : DeviceTurn) (s t : Parts) → IsSound m entry s → TurnsJob s.job turned s t → Turned m entry turned s t
