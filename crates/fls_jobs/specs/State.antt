-- The driver as contracts see it.
use Rattle.std.specs.Prelude.{◌≡◌, ◌≢◌, Bool, true, false, if◌then◌else◌, Option, Some, None, is_some, IfSome}
use Rattle.nv_base.specs.declared.geometry.Geometry.{Geometry}
use Rattle.nv_base.specs.Geometry.{IsLegal}
use Rattle.fls_model.specs.Attach.{AreBytesOf}
use Rattle.fls_model.specs.Told.{Told}
use Rattle.fls_jobs.specs.declared.answer.FlsResult.{FlsResult}
use Rattle.fls_jobs.specs.declared.answer.FlsResult.TheVariants.{JobOk, JobPending}
use Rattle.fls_jobs.specs.declared.answer.FlsStatus.{FlsStatus}
use Rattle.fls_jobs.specs.declared.answer.FlsStatus.TheVariants.{Uninit, Idle, Busy}
use Rattle.fls_jobs.specs.declared.job.FlsJob.{FlsJob}
use Rattle.fls_jobs.specs.Job.{IsJobIn}

pub record FlsState : Type 0 where
  -- what is told of the flash
  pub flash : Told
  pub geometry : Geometry
  pub attached : Bool
  -- the open job, with what it has left to do
  pub job : Option FlsJob
  -- what the last job came to
  pub result : FlsResult

-- a driver that was just made
abbrev pub just_made : Told → Geometry → FlsState
just_made flash g = record { flash = flash; geometry = g; attached = false; job = None; result = JobOk }

abbrev pub status_of : FlsState → FlsStatus
status_of s = if is_some s.job then Busy else (if s.attached then Idle else Uninit)

-- WHAT HOLDS OF EACH DRIVER
-- an open job is pending and lies in the attached flash; no other is pending
abbrev pub IsOpenJob : FlsState → Option FlsJob → Type 0
IsOpenJob s None = s.result ≢ JobPending
IsOpenJob s (Some j) = (s.result ≡ JobPending) × (s.attached ≡ true) × IsJobIn s.geometry j

-- the flash that is attached has this geometry, and the bytes that it tells fill it
pub record IsFlashOf (g : Geometry) (flash : Told) : Type 0 where
  pub geometry : flash.geometry ≡ g
  pub bytes : IfSome flash.bytes (λ b. AreBytesOf g b.now)

pub record IsDriverState (s : FlsState) : Type 0 where
  pub legal : IsLegal s.geometry
  pub attached : s.attached ≡ true → IsFlashOf s.geometry s.flash
  pub job : IsOpenJob s s.job
