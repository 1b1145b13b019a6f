-- What a Pick may take.
use Rattle.std.specs.Prelude.{◌≡◌, ◌≤◌, ℕ, List, [], length, IfSome, Option, Some, None}
use Rattle.std.specs.Option.{option_and_then, option_map_or}
use Rattle.block_machine.specs.Words.{Pick}
use Rattle.block_machine.specs.State.{Job}
use Rattle.block_machine.specs.Blocks.{block_at, job_block, kind_of}
use Rattle.block_machine.specs.Next.{next_in}
use Rattle.block_machine.specs.Legal.{IsAllowed, MayInterrupt}
use Rattle.job_pending.specs.declared.take.Take.{Take}
use Rattle.job_pending.specs.declared.take.Take.TheVariants as take
use Rattle.job_pending.specs.Take.{Took, taken_with}
use Rattle.nv_desk.specs.Desk.{DeskState, state_of}

-- the copy of a content that is lent, if a job takes one
abbrev pub copied_of : Take → (lent : List ℕ) → Option (List ℕ)
copied_of (take.Copied store) lent = Some lent
copied_of t lent = None

-- what a job takes of a content that is lent
abbrev pub took_of : Take → (lent : List ℕ) → Took
took_of t lent = (t, copied_of t lent)

-- what is lent, or RAM where nothing is
abbrev pub lent_or : (ram : List ℕ) → Option (List ℕ) → List ℕ
lent_or ram (Some lent) = lent
lent_or ram None = ram

-- the RAM of a block, and of the block of the next job
abbrev pub ram_at : DeskState → (block : ℕ) → List ℕ
ram_at d block = (block_at (state_of d) block).ram

abbrev pub next_ram : DeskState → List ℕ
next_ram d = option_map_or (λ j. ram_at d (job_block j)) (next_in d.config (state_of d).waiting) []

-- the bytes of a copy that is taken
abbrev pub copied_in : Took → Option (List ℕ)
copied_in (take.Copied store, copy) = copy
copied_in (t, copy) = None

-- the content that a job has already, if there is a job
abbrev pub content_in : Option Job → Option (List ℕ × ℕ)
content_in job = option_and_then (λ j. j.content) job

-- a job that has a content takes that in place of a copy
abbrev pub own_first : Take → Option (List ℕ × ℕ) → Take
own_first (take.Copied store) (Some x) = take.Own
own_first t content = t

-- what a Pick takes has room in the history
pub record CanTake (longest : ℕ) (content : Option (List ℕ × ℕ)) (took : Took) : Type 0 where
  pub own : IfSome content (λ x. length x.0 ≤ longest)
  pub copied : IfSome (copied_in took) (λ x. length x ≤ longest)

-- a job waits, and it may be picked now with this
pub record MayPickNext (d : DeskState) (took : Took) (ops : ℕ) : Type 0 where
  pub job : Job
  pub is : next_in d.config (state_of d).waiting ≡ Some job
  pub allowed : IsAllowed d.config d.cap (state_of d) (Pick (job_block job) (kind_of job) (taken_with job.content took) ops)

-- a job is in hand that the next one may interrupt
pub record IsInterruption (d : DeskState) : Type 0 where
  pub job : Job
  pub held : (state_of d).hand ≡ Some job
  pub next : Job
  pub first : next_in d.config (state_of d).waiting ≡ Some next
  pub may : MayInterrupt d.config job next
