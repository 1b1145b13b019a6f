-- What the two queues hold, and what each call does.
use Rattle.std.specs.Prelude.{ℕ, ◌==◌, not, Bool, List, [], ◌∷◌, ◌++◌, filter, find, if◌then◌else◌, Option, Some, None}
use Rattle.job_queues.specs.declared.waiting.Waiting.{Waiting}
use Rattle.job_queues.specs.Order.{first_of}

-- the jobs of each queue, in the order in which they came, and how many it has room for
pub record Jobs : Type 0 where
  pub immediate : List Waiting
  pub standard : List Waiting
  pub immediate_size : ℕ
  pub standard_size : ℕ

-- those of the immediate queue, or of the standard one
abbrev pub jobs_of : Jobs → Bool → List Waiting
jobs_of q immediate = if immediate then q.immediate else q.standard

abbrev pub size_of : Jobs → Bool → ℕ
size_of q immediate = if immediate then q.immediate_size else q.standard_size

-- a job behind those of its queue
abbrev pub with_job : Waiting → Jobs → Jobs
with_job w q = if w.immediate then record q { immediate = q.immediate ++ w ∷ [] } else record q { standard = q.standard ++ w ∷ [] }

-- a job before those of its queue
abbrev pub with_job_first : Waiting → Jobs → Jobs
with_job_first w q = if w.immediate then record q { immediate = w ∷ q.immediate } else record q { standard = w ∷ q.standard }

-- all but the job with this number
abbrev pub without : ℕ → List Waiting → List Waiting
without number ws = filter (λ w. not (w.number == number)) ws

-- the first job goes to the end, or out where it has this number
abbrev pub turned : ℕ → List Waiting → List Waiting
turned number [] = []
turned number (w ∷ ws) = if w.number == number then ws else ws ++ w ∷ []

-- a job of the immediate queue, or else one of the standard queue
abbrev pub either : Option Waiting → Option Waiting → Option Waiting
either (Some w) standard = Some w
either None standard = standard

-- it leaves its queue
abbrev pub without_either : Option Waiting → Option Waiting → Jobs → Jobs
without_either (Some w) standard q = record q { immediate = without w.number q.immediate }
without_either None (Some w) q = record q { standard = without w.number q.standard }
without_either None None q = q

-- the job that goes before all others: of the immediate queue, if it has one
abbrev pub first_in : Jobs → Option Waiting
first_in q = either (first_of q.immediate) (first_of q.standard)

abbrev pub without_first : Jobs → Jobs
without_first q = without_either (first_of q.immediate) (first_of q.standard) q

-- the job of a block
abbrev pub job_in : ℕ → List Waiting → Option Waiting
job_in block ws = find (λ w. w.block == block) ws

abbrev pub found_in : ℕ → Jobs → Option Waiting
found_in block q = either (job_in block q.immediate) (job_in block q.standard)

abbrev pub without_block : ℕ → Jobs → Jobs
without_block block q = without_either (job_in block q.immediate) (job_in block q.standard) q
