-- A job in hand, as its turns are counted.
use Rattle.std.specs.Prelude.{◌≡◌, ◌≤◌, ◌+◌, ◌-◌, ◌*◌, ◌==◌, ◌&&◌, if◌then◌else◌, ℕ, Bool, true, false, [], ◌∷◌, length, Option, Some, None}
use Rattle.block_machine.specs.nv_base.Marks.{number_of}
use Rattle.block_machine.specs.nv_base.declared.instance.Instance.{Instance}
use Rattle.block_machine.specs.nv_base.declared.job.DeviceOp.{DeviceOp}
use Rattle.block_machine.specs.nv_base.declared.job.JobStep.{JobStep}
use Rattle.block_machine.specs.nv_base.declared.job.JobStep.TheVariants.{Device, Ended}
use Rattle.memif.specs.Told.{DeviceTold, Fixed, figures_at, most_of, IsConfigured, IfElse}
use Rattle.job_programs.specs.Program.{Program, step_of}
use Rattle.nvm_figures.specs.declared.counted.AtWork.{AtWork}

-- it is what is told of a program
pub record IsAtWork (job : AtWork) (p : Program) : Type 0 where
  pub step : step_of p ≡ job.step
  pub failures : p.failures ≡ job.failures
  pub retries : p.retries ≡ job.retries
  pub copies : IfElse job.copies (p.indices ≡ 0 ∷ 1 ∷ []) (length p.indices ≤ 1)

-- the tries of its step that aren't started
abbrev pub unstarted_at : AtWork → Bool → ℕ
unstarted_at job true = job.retries - job.failures
unstarted_at job false = job.retries + 1 - job.failures

-- the most turns of the copy behind this instance, if there is one
abbrev pub turns_behind : AtWork → Fixed → DeviceOp → Instance → ℕ
turns_behind job f op i =
    if job.copies && (i.index == 0) then (job.retries + 1) * most_of (figures_at f (number_of (record { block = i.block; index = 1 }))) op else 0

-- its instances are configured
pub record IsNumbered (block index : ℕ) (d : DeviceTold) : Type 0 where
  pub block_fits : block ≤ 512
  pub index_fits : index ≤ 63
  pub configured : IsConfigured d (number_of (record { block = block; index = index }))

abbrev pub HasNumbersAt : JobStep → Bool → DeviceTold → Type 0
HasNumbersAt (Device op i) copies d = IsNumbered i.block i.index d × IfElse copies (IsNumbered i.block 1 d) (Unit {0})
HasNumbersAt (Ended result source) copies d = Unit {0}

abbrev pub HasNumbers : Option AtWork → DeviceTold → Type 0
HasNumbers None d = Unit {0}
HasNumbers (Some job) d = HasNumbersAt job.step job.copies d
