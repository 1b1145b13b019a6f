-- The turn of a read, which ends it.
use Rattle.std.specs.Prelude.{◌≡◌, ◌⊎◌, ◌+◌, ℕ, false, List, length, take, Some, None, IsSome}
use Rattle.nv_base.specs.Count.{next_count}
use Rattle.nv_base.specs.Geometry.{address_of_page}
use Rattle.nv_base.specs.declared.instance.DeviceNumber.{DeviceNumber}
use Rattle.nv_base.specs.declared.job.DeviceOp.TheVariants.{Read}
use Rattle.memif.specs.declared.answer.DeviceTurn.TheVariants as turn
use Rattle.memif.specs.declared.answer.JobResult.TheVariants.{JobOk, JobFailed, BlockInvalid, BlockInconsistent}
use Rattle.fls_model.specs.declared.flash.FlashAnswer.{FlashAnswer}
use Rattle.fls_model.specs.declared.flash.FlashAnswer.TheVariants.{Done, Failed}
use Rattle.fls_model.specs.Read.{IsRead}
use Rattle.fls_model.specs.Told.{Told}
use Rattle.fls_jobs.specs.State.{FlsState}
use Rattle.fee_image.specs.declared.place.Place.{Place}
use Rattle.fee_image.specs.declared.place.Place.TheVariants.{Content, Invalid, Erased, Unwritten}
use Rattle.fee_switch_laws.specs.fee_log.Index.{place_in}
use Rattle.promise_device.specs.Making.{Making}
use Rattle.fee_laws.specs.declared.job.FeeJob.{FeeJob}
use Rattle.fee_laws.specs.Inside.{Parts}
use Rattle.fee_laws.specs.Turn.{IsOn, Turned, ended_as}

-- the open job is a read
pub record IsReading (m : Making) (entry : Told) (s : Parts) (listed : List (DeviceNumber × ℕ)) (kept count : ℕ) (j : FeeJob) : Type 0 where
  pub on : IsOn m entry s listed kept count
  pub job : s.job ≡ Some j
  pub op : j.op ≡ Read

-- what stands at its number's place; where no bank is active there is none
abbrev pub place_now : Parts → FeeJob → Place
place_now s j = place_in s.banks.log.numbers s.banks.log.places j.number.0

-- a content was asked of the flash, which gave it room at the front of this one
pub record IsAsked (s : Parts) (j : FeeJob) (at writes : ℕ) (content : List ℕ) (answer : FlashAnswer) (f : FlsState) : Type 0 where
  pub place : place_now s j ≡ Content at writes
  pub active : IsSome s.banks.active
  pub only : f ≡ record s.fls { flash = f.flash; result = f.result }
  pub read : IsRead (address_of_page s.banks.log.geometry s.banks.log.banks s.banks.log.bank (at + 2)) s.fls.flash (take j.length s.content) answer (take j.length content) f.flash
  pub room : length content ≡ 4096

abbrev pub ContentsAreRead : Type 0
ContentsAreRead =
    (m : Making) (entry : Told) (s : Parts) (listed : List (DeviceNumber × ℕ)) (kept count : ℕ) (j : FeeJob) (at writes : ℕ) (content : List ℕ) (f : FlsState)
    → IsReading m entry s listed kept count j → IsAsked s j at writes content Done f
    → Turned m entry turn.Worked s (record s { fls = f; content = content; job = None; last = JobOk; given = j.length }) listed kept count false

abbrev pub ReadsFail : Type 0
ReadsFail =
    (m : Making) (entry : Told) (s : Parts) (listed : List (DeviceNumber × ℕ)) (kept count : ℕ) (j : FeeJob) (at writes : ℕ) (content : List ℕ) (f : FlsState)
    → IsReading m entry s listed kept count j → IsAsked s j at writes content Failed f
    → Turned m entry turn.Worked s (ended_as JobFailed (record s { fls = f; content = content; faults = next_count s.faults })) listed kept count false

-- the number of this place is erased, or was never written
abbrev pub IsErasedAt : Place → Type 0
IsErasedAt place = ((writes : ℕ) × (place ≡ Erased writes)) ⊎ (place ≡ Unwritten)

-- a mark without content is read in memory
abbrev pub MarksAreRead : Type 0
MarksAreRead =
    (m : Making) (entry : Told) (s : Parts) (listed : List (DeviceNumber × ℕ)) (kept count : ℕ) (j : FeeJob)
    → IsReading m entry s listed kept count j
    → (IsSome s.banks.active → (writes : ℕ) → place_now s j ≡ Invalid writes → Turned m entry turn.Worked s (ended_as BlockInvalid s) listed kept count false)
    × ((s.banks.active ≡ None) ⊎ IsErasedAt (place_now s j) → Turned m entry turn.Worked s (ended_as BlockInconsistent s) listed kept count false)
