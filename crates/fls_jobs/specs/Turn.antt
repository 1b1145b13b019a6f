-- What a turn does.
use Rattle.std.specs.Prelude.{◌≡◌, ℕ, List, Option, Some, None}
use Rattle.fls_jobs.specs.declared.answer.FlsTurn.{FlsTurn}
use Rattle.fls_jobs.specs.declared.answer.FlsTurn.TheVariants.{Idle, Worked, Off}
use Rattle.fls_jobs.specs.declared.job.FlsJob.{FlsJob}
use Rattle.fls_jobs.specs.Job.{HasInto, job_left}
use Rattle.fls_jobs.specs.State.{FlsState}
use Rattle.fls_jobs.specs.CallOf.{IsCallOf}

-- a turn takes bytes for its open job
abbrev pub TakesInto : Option FlsJob → ℕ → Type 0
TakesInto None size = Unit {0}
TakesInto (Some j) size = HasInto j size

-- one unit of a job: while the power is off it stays as it was, else it has one unit fewer, or has ended
abbrev pub IsTurnOf : FlsJob → FlsState → List ℕ → FlsTurn → List ℕ → FlsState → Type 0
IsTurnOf j s into Idle into' t = ⊥
IsTurnOf j s into Off into' t = IsCallOf j s.flash into None into' t.flash × (t ≡ record s { flash = t.flash })
IsTurnOf j s into Worked into' t =
    IsCallOf j s.flash into (Some t.result) into' t.flash × (t ≡ record s { flash = t.flash; job = job_left j t.result; result = t.result })

abbrev pub IsTurnAt : Option FlsJob → FlsState → List ℕ → FlsTurn → List ℕ → FlsState → Type 0
IsTurnAt None s into turn into' t = (turn ≡ Idle) × (t ≡ s) × (into' ≡ into)
IsTurnAt (Some j) s into turn into' t = IsTurnOf j s into turn into' t

-- nothing without an open job, else one unit of it
abbrev pub IsTurn : FlsState → List ℕ → FlsTurn → List ℕ → FlsState → Type 0
IsTurn s into turn into' t = IsTurnAt s.job s into turn into' t
