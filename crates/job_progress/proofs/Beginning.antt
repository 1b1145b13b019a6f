-- How a job comes in hand.
use Rattle.std.proofs.Common.{◌≡◌, ◌⊎◌, ℕ, Bool, true, false, if◌then◌else◌, List, [], ◌∷◌, is_some, IsSome, Option, Some, None, refl, ◌∙◌, inl, inr, arith}
use Rattle.memif.specs.Told.{DeviceTold, Stand, is_open, IfElse}
use Rattle.block_machine.specs.Words.{JobKind, ReadJob, WriteJob, RestoreJob, EraseJob, InvalidateJob, ReadAllJob, WriteAllJob, Configuration, Taken, TookNothing, TookContent, TookRefused, TookStale, Pick}
use Rattle.block_machine.specs.State.{State, Job, Sweep}
use Rattle.block_machine.specs.Blocks.{desc_of, block_at, is_synchronized, asked_store, job_block, kind_of}
use Rattle.block_machine.specs.Results.{took_none}
use Rattle.block_machine.specs.Next.{Next, Nothing, PickJob, BeginSweep, PickMember, PostMember, EndSweep, next_of, next_by, next_in}
use Rattle.block_machine.specs.Sweeps.{member_job}
use Rattle.block_machine.specs.Steps.{step, picked_job, content_after}
use Rattle.block_machine.specs.Legal.{MayPick, TakesBy, TakesForWrite, TakesCopy}
use Rattle.job_programs.specs.Failures.{served_of}
use Rattle.job_programs.specs.Program.{step_of}
use Rattle.block_laws.proofs.NextLaws.{pick_takes_in_hand}
use Rattle.job_progress.specs.Hand.{HandState}
use Rattle.job_progress.specs.JobInHand.{GivesWhole, IsFruitless, IsWorking, IsPaired, program_for}
use Rattle.job_progress.specs.Begins.{hand_by, hand_for, IsPicked, HandsBegin, PicksTakeJobs}

-- a program that begins gives nothing that the device read
begun : (size : ℕ) (stand : Stand) (block : ℕ) (kind : JobKind) (defaults : Bool) (indices : List ℕ) (retries failures : ℕ)
    → GivesWhole size (step_of (record {
      block = block;
      kind = kind;
      defaults = defaults;
      indices = indices;
      retries = retries;
      done = [];
      failures = failures;
    })) stand
begun size stand block kind defaults (x ∷ xs) retries failures = tt
begun size stand block ReadJob defaults [] retries failures = tt
begun size stand block WriteJob defaults [] retries failures = tt
begun size stand block RestoreJob defaults [] retries failures = tt
begun size stand block EraseJob defaults [] retries failures = tt
begun size stand block InvalidateJob defaults [] retries failures = tt
begun size stand block ReadAllJob defaults [] retries failures = tt
begun size stand block WriteAllJob defaults [] retries failures = tt

pub none_served : (is : List ℕ) → [] ≡ served_of is []
none_served [] = refl
none_served (i ∷ is) = refl

module _ (c : Configuration) (s : State) (j : Job) (d : DeviceTold) (hand : s.hand ≡ Some j) (picked : IsPicked j) (closed : is_open d.stand ≡ false) where
  works_from : (h : HandState) → h.program ≡ program_for c s j → IsWorking c s j h.program
  works_from h is = rw is (record {
    is = refl;
    tries = omega arith;
    needed = tt;
    written = λ writes. picked.nothing ∙ none_served (program_for c s j).indices;
    content = picked.content;
  })

  step_is : (t : Bool) → took_none j.taken ≡ t
      → IfElse (took_none j.taken) (IsFruitless (hand_by t c s j)) ((hand_by t c s j).step ≡ step_of (hand_by t c s j).program)
  step_is true is = rw is (refl, refl)
  step_is false is = rw is refl

  gives : (t : Bool) → GivesWhole (desc_of c (job_block j)).length (hand_by t c s j).step d.stand
  gives true = tt
  gives false = begun _ d.stand (program_for c s j).block (program_for c s j).kind (program_for c s j).defaults (program_for c s j).indices (program_for c s j).retries 0

  program_is : (t : Bool) → (hand_by t c s j).program ≡ program_for c s j
  program_is true = refl
  program_is false = refl

  at_is : (t : Bool) → (hand_by t c s j).started ≡ false
  at_is true = refl
  at_is false = refl

  pub begins : IsPaired c s (Some (hand_for c s j)) d
  begins = record {
    job = j;
    hand = hand;
    working = works_from (hand_for c s j) (program_is (took_none j.taken));
    step = step_is (took_none j.taken) refl;
    at = rw (at_is (took_none j.taken)) closed;
    given = gives (took_none j.taken);
  }

pub hands_begin : HandsBegin
hands_begin c s j d hand picked closed = begins c s j d hand picked closed

-- THE PICK
copy_taken : (t : Taken) (content : Option (List ℕ × ℕ)) (repeats : _) (store : ℕ) → TakesCopy repeats store t → took_none (Some t) ≡ false
    → IsSome (content_after content t)
copy_taken TookNothing content d store takes none = absurd takes
copy_taken (TookContent bytes n) content d store takes none = refl
copy_taken (TookRefused count) content d store takes none = cc
copy_taken (TookStale asked got count) content d store takes none = cc

write_taken : (c : Configuration) (s : State) (j : Job) (content : Option (List ℕ × ℕ)) (t : Bool) (taken : Taken)
    → TakesForWrite (desc_of c (job_block j)) (block_at s (job_block j)) j content t taken → took_none (Some taken) ≡ false
    → IsSome (content_after content taken)
write_taken c s j (Some x) t taken takes none = rw takes refl
write_taken c s j None true taken takes none = copy_taken taken None (desc_of c (job_block j)) (asked_store j.request) takes none
write_taken c s j None false taken takes none = rw takes refl

kind_taken : (c : Configuration) (s : State) (j : Job) (kind : JobKind) (taken : Taken)
    → TakesBy (desc_of c (job_block j)) (block_at s (job_block j)) j kind taken → kind ≡ WriteJob → took_none (Some taken) ≡ false
    → IsSome (content_after j.content taken)
kind_taken c s j WriteJob taken takes is none = write_taken c s j j.content (is_synchronized (desc_of c (job_block j)).ram) taken takes none
kind_taken c s j ReadJob taken takes is none = cc
kind_taken c s j RestoreJob taken takes is none = cc
kind_taken c s j EraseJob taken takes is none = cc
kind_taken c s j InvalidateJob taken takes is none = cc
kind_taken c s j ReadAllJob taken takes is none = cc
kind_taken c s j WriteAllJob taken takes is none = cc

pub picked_is : (c : Configuration) (s : State) (j : Job) (taken : Taken) (handed_on : ℕ)
    → TakesBy (desc_of c (job_block j)) (block_at s (job_block j)) j (kind_of j) taken → IsPicked (picked_job taken handed_on j)
picked_is c s j taken handed_on takes = record { nothing = refl; content = λ writes none. kind_taken c s j (kind_of j) taken takes writes none }

-- a request on all blocks is picked where no job is in hand
none_in_hand : (c : Configuration) (s : State) (next held : Option Job) (sweep : Option Sweep) (sw : Sweep) → next_by c s next held sweep ≡ BeginSweep sw
    → held ≡ None
none_in_hand c s (Some j) held sweep sw is = cc
none_in_hand c s None None sweep sw is = refl
none_in_hand c s None (Some h) sweep sw is = cc

picks_by : (c : Configuration) (s : State) (block ops : ℕ) (kind : JobKind) (t : Taken) (n : Next) → next_of c s ≡ n
    → MayPick c s block kind t n
    → ((step c s (Pick block kind t ops)).hand ≡ None) ⊎ ((j : Job) × ((step c s (Pick block kind t ops)).hand ≡ Some j) × IsPicked j)
picks_by c s block ops kind t (PickJob j) is may =
    inr (picked_job t (if is_some s.hand then 2 else 0) j, (pick_takes_in_hand c s j (record { number = 0; writes = false; under_way = false; canceled = false; left = []; same = false; spoiled = false }) 0 block ops kind t).0 is, picked_is c s j t _ may.takes)
picks_by c s block ops kind t (PickMember sw id) is may =
    inr (picked_job t (if is_some s.hand then 2 else 0) (member_job c sw id), (pick_takes_in_hand c s (member_job c sw id) sw id block ops kind t).1 is, picked_is c s (member_job c sw id) t _ may.takes)
picks_by c s block ops kind t (BeginSweep sw) is may = inl (rw is (none_in_hand c s (next_in c s.waiting) s.hand s.sweep sw is))
picks_by c s block ops kind t Nothing is may = absurd may
picks_by c s block ops kind t (PostMember sw id) is may = absurd may
picks_by c s block ops kind t (EndSweep sw) is may = absurd may

pub picks_take_jobs : PicksTakeJobs
picks_take_jobs c cap s block ops kind t allowed = picks_by c s block ops kind t (next_of c s) refl allowed.1
