-- What holds of each device.
use Rattle.std.specs.Prelude.{◌≡◌, ◌≢◌, ◌<◌, ◌≤◌, ℕ, min, true, false, IsTrue, List, length, take, Some, None, IfSome}
use Rattle.std.specs.List.{All}
use Rattle.nv_base.specs.Count.{last_count}
use Rattle.nv_base.specs.declared.job.DeviceOp.{DeviceOp}
use Rattle.nv_base.specs.declared.job.DeviceOp.TheVariants.{Read, Write, Invalidate, Erase}
use Rattle.nv_base.specs.declared.instance.DeviceNumber.{DeviceNumber}
use Rattle.memif.specs.declared.answer.JobResult.TheVariants.{JobPending}
use Rattle.fls_model.specs.Attach.{AreBytesOf}
use Rattle.fls_model.specs.Told.{Told, bytes_now}
use Rattle.fls_jobs.specs.Start.{IsIdle}
use Rattle.fls_told.specs.Device.{tells_now}
use Rattle.fls_told.specs.Runs.{HasRun, CountsEachCut}
use Rattle.fee_format.specs.Pages.{body_pages_of}
use Rattle.ea_image.specs.declared.step.SlotStep.TheVariants.{EraseHead}
use Rattle.ea_image.specs.Memory.{HoldsSlots}
use Rattle.ea_image.specs.Slots.{slot_bytes, other, standing}
use Rattle.ea_image.specs.Steps.{IsStepOf, HasCome}
use Rattle.ea_told.specs.declared.job.EaJob.{EaJob}
use Rattle.ea_told.specs.Making.{Making, HasSlots, entry_of}
use Rattle.ea_told.specs.Parts.{Parts}
use Rattle.ea_told.specs.Device.{state_at, can_write, head_of, flash_device}

-- it is over the flash and of the numbers that it was made for
pub record IsMadeFor (m : Making) (s : Parts) : Type 0 where
  pub slots : HasSlots m
  pub geometry : s.geometry ≡ m.geometry
  pub driver : s.fls.geometry ≡ m.geometry
  pub numbers : s.numbers ≡ m.numbers
  pub idle : IsIdle s.fls
  pub bytes : IfSome s.fls.flash.bytes (λ b. AreBytesOf m.geometry b.now)
  -- a state for each number, and room for each content
  pub states : length s.states ≡ length m.numbers
  pub room : length s.content ≡ m.geometry.sector
  pub small : All (λ x. x < 256) s.content
  pub given : s.given ≤ m.geometry.sector
  pub ended : s.last ≢ JobPending

-- THE BYTES, WHERE THEY ARE TOLD
abbrev pub IfTells : Making → Told → Parts → (List ℕ → Type 0) → Type 0
IfTells m entry s P = IsTrue (tells_now (flash_device m entry s)) → IfSome (bytes_now s.fls.flash) P

-- they hold what is in memory of each number
abbrev pub HoldAll : Making → Parts → List ℕ → Type 0
HoldAll m s bytes =
    (n i : ℕ) (x : DeviceNumber × ℕ) → entry_of m n ≡ Some (i, x) → HoldsSlots m.geometry.page x.1 (state_at s.states i).memory (slot_bytes m.geometry bytes i)

-- and whatever the image was, the slots whose heads are settled stand with them
abbrev pub StandAll : Making → Parts → List ℕ → Type 0
StandAll m s bytes =
    (n i : ℕ) (x : DeviceNumber × ℕ) → entry_of m n ≡ Some (i, x)
    → standing m.geometry.page x.1 (slot_bytes m.geometry bytes i (other (state_at s.states i).memory.target)) ≡ (state_at s.states i).memory.settled

-- THE OPEN JOB
abbrev pub IsLengthOf : DeviceOp → ℕ → ℕ → Type 0
IsLengthOf Read length size = length ≡ size
IsLengthOf Write length size = length ≡ size
IsLengthOf Invalidate length size = length ≡ 0
IsLengthOf Erase length size = length ≡ 0

-- it is of a configured number at its place, and has come to a step
pub record IsJob (m : Making) (s : Parts) (j : EaJob) : Type 0 where
  pub size : ℕ
  pub entry : entry_of m j.number.0 ≡ Some (j.place, (j.number, size))
  pub fits : IsLengthOf j.op j.length size
  pub step : IsStepOf (body_pages_of j.length m.geometry.page) j.step
  -- behind the first step its number can be written
  pub begun : j.step ≢ EraseHead → can_write (state_at s.states j.place) ≡ true

-- in its slot the steps before are done, and behind the first one nothing is in doubt
pub record HasComeTo (m : Making) (s : Parts) (j : EaJob) (bytes : List ℕ) : Type 0 where
  pub come : HasCome m.geometry.page (body_pages_of j.length m.geometry.page) (head_of j (state_at s.states j.place)) (take j.length s.content) j.step
      (slot_bytes m.geometry bytes j.place (state_at s.states j.place).memory.target)
  pub doubt : j.step ≢ EraseHead → (state_at s.states j.place).memory.doubt ≡ None

-- ITS COUNTS
pub record IsSound (m : Making) (entry : Told) (s : Parts) : Type 0 where
  pub made_for : IsMadeFor m s
  pub run : HasRun (flash_device m entry s)
  pub rests : s.started ≡ false → s.job ≡ None
  pub held : s.started ≡ true → IfTells m entry s (HoldAll m s)
  pub stands : s.started ≡ true → IfSome (bytes_now s.fls.flash) (StandAll m s)
  pub job : IfSome s.job (IsJob m s)
  -- while the power is on
  pub work : s.fls.flash.off ≡ false → IfSome s.job (λ j. IfSome (bytes_now s.fls.flash) (HasComeTo m s j))
  -- its flash counted each power cut that no plan asked for
  pub cuts : CountsEachCut entry s.fls.flash
  pub worn : (i since : ℕ) → (state_at s.states i).worn ≡ Some since → since ≤ s.ops
  pub faults : s.faults ≤ last_count
  pub ops : s.ops ≡ min (length s.operations) last_count
  pub off : s.started ≡ true → s.off ≡ s.fls.flash.off
