-- The job in hand while the device is at its operation.
use Rattle.std.specs.Prelude.{slice_get}
use Rattle.std.proofs.Common.{◌≡◌, ◌≢◌, ℕ, Bool, true, false, if◌then◌else◌, List, [], length, Some, None, refl, sym, ap, ◌∙◌}
use Rattle.block_machine.specs.nv_base.Marks.{number_of}
use Rattle.memif.specs.Told as device
use Rattle.memif.specs.Told.{DeviceTold, Stand, Open, is_open, IfElse}
use Rattle.block_machine.specs.Words.{Mark, JobKind, ReadJob, Configuration}
use Rattle.block_machine.specs.State.{State, Job}
use Rattle.block_machine.specs.Blocks.{indices_of, job_block, kind_of, mark_by, mark_of, rank_of}
use Rattle.block_machine.specs.Results.{took_none}
use Rattle.job_programs.specs.Program.{Program, works, next_in}
use Rattle.job_programs.proofs.Outcomes.{reads_if}
use Rattle.job_progress.specs.Hand.{HandState}
use Rattle.job_progress.specs.JobInHand.{IsFruitless, IsAt, IsInHand, job_for}
use Rattle.job_progress.proofs.Going.{next_of_done}

at_by : (c : Configuration) (j : Job) (p : Program) (t : Bool) (stand : Stand) (job : device.Job) → IfElse t (IsAt c j p stand) (is_open stand ≡ false)
    → stand ≡ Open job → (t ≡ true) × IsAt c j p stand
at_by c j p true stand job at open_now = (refl, at)
at_by c j p false stand job closed open_now = let now : is_open stand ≡ true = ap is_open open_now in cc

fruit : (h : HandState) (u : Bool) (Step : Type 0) → IfElse u (IsFruitless h) Step → h.started ≡ true → u ≡ false
fruit h true Step fruitless on = let off = fruitless.1 in cc
fruit h false Step step on = refl

works_at : (t : Bool) (xs : List ℕ) (n index : ℕ) → slice_get (if t then xs else []) n ≡ Some index → (t ≡ true) × (slice_get xs n ≡ Some index)
works_at true xs n index has = (refl, has)
works_at false xs n index has = cc

-- a job with a next operation works on one of the instances of its block
pub next_is_own : (c : Configuration) (s : State) (h : HandState) (d : DeviceTold) (is : IsInHand c s h d) (index : ℕ) → next_in h.program ≡ Some index
    → (works (kind_of is.job) ≡ true) × (slice_get (indices_of c s (job_block is.job)) (length h.program.done) ≡ Some index)
next_is_own c s h d is index next =
    works_at (works (kind_of is.job)) (indices_of c s (job_block is.job)) (length h.program.done) index
    (sym (ap (λ (q : Program). slice_get q.indices (length h.program.done)) is.working.is) ∙ (next_of_done h.program index next).1)

-- the device's job is an operation of the job in hand, which got a content
pub record AtOperation (c : Configuration) (s : State) (h : HandState) (job : device.Job) (j : Job) : Type 0 where
  pub index : ℕ
  pub next : next_in h.program ≡ Some index
  pub own : slice_get (indices_of c s (job_block j)) (length h.program.done) ≡ Some index
  pub number : job.number ≡ number_of (record { block = h.program.block; index = index })
  pub mark : job.mark ≡ mark_of j
  pub urgent : job.urgent ≡ (rank_of c j).immediate
  pub some : took_none j.taken ≡ false
  pub at_device : works (kind_of j) ≡ true
  pub reads : job.mark ≡ None → kind_of j ≡ ReadJob
  pub no_read : (m : Mark) → job.mark ≡ Some m → kind_of j ≢ ReadJob

pub at_operation : (c : Configuration) (s : State) (h : HandState) (old : DeviceTold) (job : device.Job) (is : IsInHand c s h old) → old.stand ≡ Open job
    → AtOperation c s h job is.job
at_operation c s h old job is on = record {
  index = at.1.index;
  next = at.1.next;
  own = own.1;
  number = ap (λ (x : device.Job). x.number) asked;
  mark = mark;
  urgent = ap (λ (x : device.Job). x.urgent) asked;
  some = some;
  at_device = own.0;
  reads = λ none. reads_if (kind_of is.job) is.job.content own.0 (λ kind. is.working.content kind some) (sym mark ∙ none);
  no_read = λ m marks kind. let none = ap (λ (k : JobKind). mark_by k is.job.content) kind in let same = mark in cc;
}
  where
    at : (h.started ≡ true) × IsAt c is.job h.program old.stand
    at = at_by c is.job h.program h.started old.stand job is.at on

    asked : job ≡ job_for c is.job h.program at.1.index
    asked = let both : Open job ≡ Open (job_for c is.job h.program at.1.index) = sym on ∙ at.1.stands in cc

    mark : job.mark ≡ mark_of is.job
    mark = ap (λ (x : device.Job). x.mark) asked

    some : took_none is.job.taken ≡ false
    some = fruit h (took_none is.job.taken) _ is.step at.0

    own : (works (kind_of is.job) ≡ true) × (slice_get (indices_of c s (job_block is.job)) (length h.program.done) ≡ Some at.1.index)
    own = next_is_own c s h old is at.1.index at.1.next
