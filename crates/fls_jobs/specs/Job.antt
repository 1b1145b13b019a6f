-- The job that is open.
use Rattle.std.specs.Prelude.{◌≡◌, ◌<◌, ◌≤◌, ◌+◌, ◌-◌, ◌%◌, ◌^◌, ℕ, length, Option, Some, None}
use Rattle.nv_base.specs.declared.geometry.Geometry.{Geometry}
use Rattle.nv_base.specs.Geometry.{size_of}
use Rattle.fls_jobs.specs.declared.answer.FlsResult.{FlsResult}
use Rattle.fls_jobs.specs.declared.answer.FlsResult.TheVariants.{JobPending}
use Rattle.fls_jobs.specs.declared.job.FlsJob.{FlsJob}
use Rattle.fls_jobs.specs.declared.job.FlsJob.TheVariants.{Read, Write, Erase, Compare, BlankCheck}

-- a job lies inside a flash of a geometry
abbrev pub IsJobIn : Geometry → FlsJob → Type 0
IsJobIn g (Read a n) = a + n ≤ size_of g
IsJobIn g (Write a page) = (length page ≡ g.page) × (a % g.page ≡ 0) × (a + length page ≤ size_of g)
IsJobIn g (Erase k n) = (0 < n) × (k + n ≤ g.sectors)
IsJobIn g (Compare a content) = (length content ≤ g.page) × (a + length content ≤ size_of g)
IsJobIn g (BlankCheck a n) = a + n ≤ size_of g

-- a read and a blank check put their bytes into a slice of the job's length
abbrev pub HasInto : FlsJob → ℕ → Type 0
HasInto (Read a n) size = size ≡ n
HasInto (BlankCheck a n) size = size ≡ n
HasInto (Write a page) size = Unit {0}
HasInto (Erase k n) size = Unit {0}
HasInto (Compare a content) size = Unit {0}

-- what is left of a job whose unit came to a result: of a pending one, the sectors after its first
abbrev pub job_left : FlsJob → FlsResult → Option FlsJob
job_left (Erase k n) JobPending = Some (Erase (k + 1) (n - 1))
job_left _ _ = None

-- the sectors of an erase have numbers of 32 bits
abbrev pub HasNext : FlsJob → Type 0
HasNext (Erase k n) = (0 < n) × (k + n < 2 ^ 32)
HasNext _ = Unit {0}
