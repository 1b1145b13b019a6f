-- The mark that a Pick takes.
use Rattle.std.specs.Option.{option_and_then}
use Rattle.std.proofs.Common.{◌≡◌, ℕ, Bool, true, false, if◌then◌else◌, List, refl, sym, ap, ◌∙◌, Option, Some, None, is_some}
use Rattle.block_machine.specs.Words.{JobKind, ReadJob, WriteJob, ReadAllJob, WriteAllJob, Taken, TookNothing, TookContent, TookRefused, TookStale, BlockDesc, Configuration, Pick}
use Rattle.block_machine.specs.State.{State, BlockState, Job, Sweep}
use Rattle.block_machine.specs.Blocks.{desc_of, block_at, is_synchronized, job_block, kind_of, mark_by, mark_of}
use Rattle.block_machine.specs.Sweeps.{member_job}
use Rattle.block_machine.specs.Next.{Next, Nothing, PickJob, BeginSweep, PickMember, PostMember, EndSweep, next_in, next_by, next_of}
use Rattle.block_machine.specs.Steps.{step, content_after, picked_job, picked}
use Rattle.block_machine.specs.Legal.{TakesCopy, TakesForWrite, TakesBy, IsPick, MayPick}
use Rattle.rows_histories.specs.Seen.{mark_taken}

-- A JOB
copy_mark : (d : BlockDesc) (store : ℕ) (t : Taken) → TakesCopy d store t → mark_by WriteJob (content_after None t) ≡ mark_taken WriteJob t
copy_mark d store TookNothing takes = absurd takes
copy_mark d store (TookContent bytes number) takes = refl
copy_mark d store (TookRefused count) takes = refl
copy_mark d store (TookStale asked got count) takes = refl

write_mark : (d : BlockDesc) (b : BlockState) (j : Job) (content : Option (List ℕ × ℕ)) (synchronized : Bool) (t : Taken)
    → TakesForWrite d b j content synchronized t → mark_by WriteJob (content_after content t) ≡ mark_taken WriteJob t
write_mark d b j (Some x) synchronized t takes = rw takes refl
write_mark d b j None true t takes = copy_mark d _ t takes
write_mark d b j None false t takes = rw takes refl

kind_mark : (d : BlockDesc) (b : BlockState) (j : Job) (kind : JobKind) (t : Taken) → TakesBy d b j kind t
    → mark_by kind (content_after j.content t) ≡ mark_taken kind t
kind_mark d b j WriteJob t takes = write_mark d b j j.content (is_synchronized d.ram) t takes
kind_mark d b j ReadJob t takes = refl
kind_mark d b j kind t takes = refl

job_mark : (c : Configuration) (s : State) (j : Job) (block : ℕ) (kind : JobKind) (t : Taken) (handed_on : ℕ) → IsPick c s j block kind t
    → mark_of (picked_job t handed_on j) ≡ mark_taken kind t
job_mark c s j block kind t handed_on pick =
    kind_mark (desc_of c (job_block j)) (block_at s (job_block j)) j (kind_of j) t pick.takes ∙ ap (λ (k : JobKind). mark_taken k t) (sym pick.same_kind)

-- A REQUEST ON ALL BLOCKS
begins : Next → Bool
begins (BeginSweep sw) = true
begins n = false

-- it is picked where no job is in hand
free_by : (c : Configuration) (s : State) (o hand : Option Job) (sweep : Option Sweep) → begins (next_by c s o hand sweep) ≡ true → hand ≡ None
unfolding begins
free_by c s (Some j) hand sweep is = cc
free_by c s None None sweep is = refl
free_by c s None (Some j) sweep is = cc

sweep_mark : (kind : JobKind) (writes : Bool) (t : Taken) → kind ≡ (if writes then WriteAllJob else ReadAllJob) → None ≡ mark_taken kind t
sweep_mark kind true t is = rw is refl
sweep_mark kind false t is = rw is refl

no_mark : (o : Option Job) → o ≡ None → option_and_then mark_of o ≡ None
no_mark o is = rw is refl

picked_mark : (c : Configuration) (s : State) (block : ℕ) (kind : JobKind) (t : Taken) (n : Next) → next_of c s ≡ n → MayPick c s block kind t n
    → option_and_then mark_of (picked c s t n).hand ≡ mark_taken kind t
unfolding begins
picked_mark c s block kind t (PickJob j) next may = job_mark c s j block kind t (if is_some s.hand then 2 else 0) may
picked_mark c s block kind t (PickMember sw id) next may = job_mark c s (member_job c sw id) block kind t (if is_some s.hand then 2 else 0) may
picked_mark c s block kind t (BeginSweep sw) next may =
    no_mark s.hand (free_by c s (next_in c s.waiting) s.hand s.sweep (ap begins next)) ∙ sweep_mark kind sw.writes t may.same_kind
picked_mark c s block kind t (PostMember sw id) next may = absurd may
picked_mark c s block kind t (EndSweep sw) next may = absurd may
picked_mark c s block kind t Nothing next may = absurd may

-- the mark of the job that a Pick takes in hand
pub hand_mark : (c : Configuration) (s : State) (block : ℕ) (kind : JobKind) (t : Taken) (ops : ℕ) → MayPick c s block kind t (next_of c s)
    → option_and_then mark_of (step c s (Pick block kind t ops)).hand ≡ mark_taken kind t
hand_mark c s block kind t ops may = picked_mark c s block kind t (next_of c s) refl may
