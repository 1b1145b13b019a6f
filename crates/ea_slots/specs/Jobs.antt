-- A job that is taken.
use Rattle.std.specs.Prelude.{◌≡◌, ℕ, List, [], length, Option, Some}
use Rattle.nv_base.specs.declared.job.DeviceOp.{DeviceOp}
use Rattle.nv_base.specs.declared.job.DeviceOp.TheVariants.{Write}
use Rattle.ea_image.specs.declared.step.SlotStep.TheVariants.{EraseHead}
use Rattle.ea_told.specs.declared.job.EaJob.{EaJob}
use Rattle.ea_told.specs.Making.{Making, entry_of}
use Rattle.ea_told.specs.Inside.{IsLengthOf}

-- of a configured number at its place, before its first step
pub record IsJobOf (m : Making) (j : EaJob) : Type 0 where
  pub size : ℕ
  pub entry : entry_of m j.number.0 ≡ Some (j.place, (j.number, size))
  pub fits : IsLengthOf j.op j.length size
  pub step : j.step ≡ EraseHead

-- a write has a content, of the job's length
abbrev pub IsContentOf : DeviceOp → ℕ → List ℕ → Type 0
IsContentOf Write n content = n ≡ length content
IsContentOf op n content = content ≡ []

-- and asks for the length of its content
abbrev pub AsksFor : DeviceOp → Option ℕ → List ℕ → Type 0
AsksFor Write wanted content = wanted ≡ Some (length content)
AsksFor op wanted content = content ≡ []
