-- The call of the flash that one unit of a job makes, and what the job comes to.
use Rattle.std.specs.Prelude.{◌≡◌, ◌==◌, ℕ, if◌then◌else◌, List, length, replicate, Option, Some, None}
use Rattle.fls_model.specs.declared.flash.FlashAnswer.{FlashAnswer}
use Rattle.fls_model.specs.declared.flash.FlashAnswer.TheVariants.{Done, Failed, Off}
use Rattle.fls_model.specs.Read.{IsRead}
use Rattle.fls_model.specs.Step.{IsStep, programs, erases}
use Rattle.fls_model.specs.Told.{Told}
use Rattle.fls_jobs.specs.declared.answer.FlsResult.{FlsResult}
use Rattle.fls_jobs.specs.declared.answer.FlsResult.TheVariants.{JobOk, JobFailed, JobPending, JobCanceled, Differs}
use Rattle.fls_jobs.specs.declared.job.FlsJob.{FlsJob}
use Rattle.fls_jobs.specs.declared.job.FlsJob.TheVariants.{Read, Write, Erase, Compare, BlankCheck}

-- what a job comes to by the answer to its call, and by what it comes to where the call was done: nothing new while a cut
-- stands
abbrev pub result_after : FlashAnswer → FlsResult → Option FlsResult
result_after Done done = Some done
result_after Failed done = Some JobFailed
result_after Off done = None

-- an erase is pending until its last sector is done
abbrev pub erase_result : ℕ → FlsResult
erase_result n = if n == 1 then JobOk else JobPending

-- JobOk exactly where this holds, and else Differs
abbrev pub IsVerdict : Type 0 → FlsResult → Type 0
IsVerdict P JobOk = P
IsVerdict P Differs = ¬ P
IsVerdict P other = ⊥

-- bytes are read, and compared where they could be
pub record Compares (a : ℕ) (content : List ℕ) (s : Told) (answer : FlashAnswer) (done : FlsResult) (t : Told) : Type 0 where
  pub before : List ℕ
  pub bytes : List ℕ
  pub size : length bytes ≡ length content
  pub read : IsRead a s before answer bytes t
  pub verdict : answer ≡ Done → IsVerdict (bytes ≡ content) done

-- the next unit of a job is this call of the flash, with its answer, and where it was done the job comes to this
abbrev pub Makes : FlsJob → Told → List ℕ → FlashAnswer → FlsResult → List ℕ → Told → Type 0
Makes (Read a n) s into answer done into' t = IsRead a s into answer into' t × (done ≡ JobOk)
Makes (Write a page) s into answer done into' t = IsStep (programs a page) s answer t × (done ≡ JobOk) × (into' ≡ into)
Makes (Erase k n) s into answer done into' t = IsStep (erases s.geometry k) s answer t × (done ≡ erase_result n) × (into' ≡ into)
Makes (Compare a content) s into answer done into' t = Compares a content s answer done t × (into' ≡ into)
Makes (BlankCheck a n) s into answer done into' t = IsRead a s into answer into' t × (answer ≡ Done → IsVerdict (into' ≡ replicate (length into') 255) done)

-- the next unit of a job comes to this by some call of the flash
pub record IsCallOf (j : FlsJob) (s : Told) (into : List ℕ) (r : Option FlsResult) (into' : List ℕ) (t : Told) : Type 0 where
  pub answer : FlashAnswer
  pub done : FlsResult
  pub makes : Makes j s into answer done into' t
  pub result_is : r ≡ result_after answer done

-- ONE CALL ALONE
-- what the driver comes to by its answer, without a job
abbrev pub closed_as : FlashAnswer → FlsResult
closed_as Done = JobOk
closed_as Failed = JobFailed
closed_as Off = JobCanceled
