-- What a Pick takes for a job.
use Rattle.std.specs.Prelude.{ℕ, Bool, List, option_map, if◌then◌else◌, Option, Some, None}
use Rattle.block_machine.specs.Words.{ReqResult, NotOk, Taken, TookNothing, TookContent, TookRefused, TookStale}
use Rattle.job_pending.specs.declared.take.Staged.{Staged}
use Rattle.job_pending.specs.declared.take.Take.{Take}
use Rattle.job_pending.specs.declared.take.Take.TheVariants as take

abbrev pub staged_of : Option Staged → Option (List ℕ × ℕ)
staged_of o = option_map (λ x. (x.bytes, x.store)) o

-- what is taken, with the copy, if one is made
abbrev pub Took : Type 0
Took = Take × Option (List ℕ)

-- a content is taken, if there is one
abbrev pub content_taken : Option (List ℕ × ℕ) → Taken
content_taken (Some x) = TookContent x.0 x.1
content_taken None = TookNothing

-- what a Pick takes for a job that has this content
abbrev pub taken_with : Option (List ℕ × ℕ) → Took → Taken
taken_with content (take.Nothing, copy) = TookNothing
taken_with content (take.Own, copy) = content_taken content
taken_with content (take.Copied store, Some bytes) = TookContent bytes store
taken_with content (take.Copied store, None) = content_taken content
taken_with content (take.Refused count, copy) = TookRefused count
taken_with content (take.Stale asked got count, copy) = TookStale asked got count

-- what was taken, where the job has this content since
abbrev pub taken_as : Option (List ℕ × ℕ) → Take → Taken
taken_as content take.Nothing = TookNothing
taken_as content take.Own = content_taken content
taken_as content (take.Copied store) = content_taken content
taken_as content (take.Refused count) = TookRefused count
taken_as content (take.Stale asked got count) = TookStale asked got count

-- what the last Pick of a job took, if it was picked
abbrev pub taken_last : Option (List ℕ × ℕ) → Option Take → Option Taken
taken_last content last = option_map (taken_as content) last

-- what a job ends with whose last Pick got no content to write
abbrev pub result_without : (none : Bool) → Option ReqResult
result_without none = if none then Some NotOk else None
