-- Whether a job is taken.
use Rattle.std.specs.Prelude.{◌≡◌, ℕ, true, false, Result, Ok, Err, Some, None, IsSome}
use Rattle.fls_jobs.specs.declared.answer.FlsRefusal.{FlsRefusal}
use Rattle.fls_jobs.specs.declared.answer.FlsRefusal.TheVariants.{Busy, Uninit, BadAddress, BadLength}
use Rattle.fls_jobs.specs.declared.answer.FlsResult.TheVariants.{JobPending}
use Rattle.fls_jobs.specs.declared.job.FlsJob.{FlsJob}
use Rattle.fls_jobs.specs.declared.reach.Reach.{Reach}
use Rattle.fls_jobs.specs.Reach.{IsPlace, IsLength}
use Rattle.fls_jobs.specs.State.{FlsState}

-- no job is open, the flash is attached, and a job of this reach may begin there and have this length
pub record CanStart (s : FlsState) (r : Reach) (at n : ℕ) : Type 0 where
  pub idle : s.job ≡ None
  pub attached : s.attached ≡ true
  pub place : IsPlace r at
  pub length : IsLength r at n

-- the first refusal that holds
abbrev pub IsRefusal : FlsState → Reach → ℕ → ℕ → FlsRefusal → Type 0
IsRefusal s r at n Busy = IsSome s.job
IsRefusal s r at n Uninit = (s.job ≡ None) × (s.attached ≡ false)
IsRefusal s r at n BadAddress = (s.job ≡ None) × (s.attached ≡ true) × ¬ IsPlace r at
IsRefusal s r at n BadLength = (s.job ≡ None) × (s.attached ≡ true) × IsPlace r at × ¬ IsLength r at n

-- the answer to a start
abbrev pub IsAnswer : FlsState → Reach → ℕ → ℕ → Result (Unit {0}) FlsRefusal → Type 0
IsAnswer s r at n (Ok _) = CanStart s r at n
IsAnswer s r at n (Err refusal) = IsRefusal s r at n refusal

-- a job is open where it was taken, else nothing changed
abbrev pub Starts : FlsJob → FlsState → Reach → ℕ → ℕ → Result (Unit {0}) FlsRefusal → FlsState → Type 0
Starts job s r at n (Ok _) t = CanStart s r at n × (t ≡ record s { job = Some job; result = JobPending })
Starts job s r at n (Err refusal) t = IsRefusal s r at n refusal × (t ≡ s)

-- a driver without a job, whose flash is attached
pub record IsIdle (s : FlsState) : Type 0 where
  pub job : s.job ≡ None
  pub attached : s.attached ≡ true
