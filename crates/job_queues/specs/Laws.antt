-- The queues against the machine.
use Rattle.std.specs.Prelude.{◌≡◌, ◌↔◌, ◌==◌, ℕ, not, Bool, true, false, List, [], ◌∷◌, ◌++◌, filter, length, map, option_map, if◌then◌else◌, Some, None}
use Rattle.std.specs.Option.{option_map_or}
use Rattle.block_machine.specs.Words.{Configuration}
use Rattle.block_machine.specs.State.{Job}
use Rattle.block_machine.specs.Blocks.{job_block, rank_of}
use Rattle.block_machine.specs.Next.{next_in}
use Rattle.block_machine.specs.Steps.{without_job}
use Rattle.job_queues.specs.declared.waiting.Waiting.{Waiting}
use Rattle.job_queues.specs.Order.{first_of}
use Rattle.job_queues.specs.Jobs.{Jobs, either, first_in, without, with_job, with_job_first, without_first}

-- the immediate jobs of a list, or the standard ones
abbrev pub only : Bool → List Waiting → List Waiting
only immediate ws = filter (λ w. if immediate then w.immediate else not w.immediate) ws

-- Of any list of jobs the first is the first of its immediate ones, or else of its standard ones.
abbrev pub OneOrder : Type 0
OneOrder = (ws : List Waiting) → first_of ws ≡ either (first_of (only true ws)) (first_of (only false ws))

-- there is a first exactly where a job waits
abbrev pub NoneIsEmpty : Type 0
NoneIsEmpty = (q : Jobs) → (first_in q ≡ None) ↔ (q.immediate ++ q.standard ≡ [])

-- what a queue knows of one of the machine's jobs
abbrev pub waiting_of : Configuration → Job → Waiting
waiting_of c j = record { block = job_block j; priority = (rank_of c j).priority; immediate = (rank_of c j).immediate; number = j.number }

-- the queues, of any sizes, while these jobs of the machine wait
abbrev pub queues_of : Configuration → List Job → ℕ → ℕ → Jobs
queues_of c jobs immediate standard = record {
  immediate = only true (map (waiting_of c) jobs);
  standard = only false (map (waiting_of c) jobs);
  immediate_size = immediate;
  standard_size = standard;
}

-- the first in the queues is the machine's next job
abbrev pub FirstIsNext : Type 0
FirstIsNext = (c : Configuration) (jobs : List Job) (i s : ℕ) → option_map (waiting_of c) (next_in c jobs) ≡ first_in (queues_of c jobs i s)

-- the machine's next job is an immediate one exactly where one waits
abbrev pub ImmediateGoesFirst : Type 0
ImmediateGoesFirst =
    (c : Configuration) (jobs : List Job) (i s : ℕ)
    → option_map_or (λ j. (rank_of c j).immediate) (next_in c jobs) false ≡ not (length (queues_of c jobs i s).immediate == 0)

-- a job that is added waits behind the others
abbrev pub AddedWaits : Type 0
AddedWaits = (c : Configuration) (jobs : List Job) (j : Job) (i s : ℕ) → queues_of c (jobs ++ j ∷ []) i s ≡ with_job (waiting_of c j) (queues_of c jobs i s)

-- one that is put back waits before them
abbrev pub PutBackWaits : Type 0
PutBackWaits = (c : Configuration) (jobs : List Job) (j : Job) (i s : ℕ) → queues_of c (j ∷ jobs) i s ≡ with_job_first (waiting_of c j) (queues_of c jobs i s)

-- a job that leaves the machine's list leaves both queues, and so the one that it is in
abbrev pub TakenLeaves : Type 0
TakenLeaves =
    (c : Configuration) (jobs : List Job) (n : ℕ) (immediate : Bool)
    → only immediate (map (waiting_of c) (without_job n jobs)) ≡ without n (only immediate (map (waiting_of c) jobs))

-- of these jobs, no other one has this one's number
abbrev pub TellsJob : Job → List Job → Type 0
TellsJob j [] = Unit {0}
TellsJob j (x ∷ xs) = (x.number ≡ j.number → x ≡ j) × TellsJob j xs

-- the next job is taken out of the queues as out of the machine's list
abbrev pub NextLeaves : Type 0
NextLeaves =
    (c : Configuration) (jobs : List Job) (j : Job) (i s : ℕ)
    → TellsJob j jobs → next_in c jobs ≡ Some j → without_first (queues_of c jobs i s) ≡ queues_of c (without_job j.number jobs) i s
