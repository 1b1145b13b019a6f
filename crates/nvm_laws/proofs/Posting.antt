-- The Post of a finished job, and a Post without a Pick.
use Rattle.std.specs.List.{Contains}
use Rattle.std.specs.Option.{option_map_or}
use Rattle.std.proofs.Common.{◌≡◌, ℕ, ◌+◌, ◌⊎◌, Bool, true, false, List, [], ◌∷◌, ◌++◌, Option, Some, None, refl, sym, ap, ◌∙◌, subst, inl, inr}
use Rattle.block_machine.specs.nv_base.declared.job.JobStep.TheVariants as step
use Rattle.memif.specs.Told.{DeviceTold, ops_of, given_by, IfElse, Part, part_at, PartTold}
use Rattle.memif.specs.Clock.{Clock}
use Rattle.block_machine.specs.Words.{Entry, Post, ReqResult, GivenFrom, JobKind, RestoreJob}
use Rattle.block_machine.specs.State.{Job}
use Rattle.block_machine.specs.Blocks.{desc_of, job_block, kind_of, names_ram, rank_of}
use Rattle.block_machine.specs.Next.{Next, Nothing, PickJob, BeginSweep, PickMember, PostMember, EndSweep, next_of}
use Rattle.block_machine.specs.Results.{Answer, Own, own_of, open_sets, result_of, unpicked_result, took_none}
use Rattle.block_machine.specs.Sweeps.{sweep_result}
use Rattle.block_machine.specs.Prices.{price_in_faults}
use Rattle.promise_blocks.specs.OverDevice.{is_of}
use Rattle.promise_blocks.specs.Payment.{IsPaid}
use Rattle.nvm_device_laws.specs.Tries.{TriesArePaid}
use Rattle.job_programs.specs.Program.{Program, works, next_in, step_by, step_of}
use Rattle.job_programs.specs.Laws.{failed_of}
use Rattle.ram_blocks.specs.Told.{Told}
use Rattle.nv_desk_copies.specs.nv_desk.Desk.{DeskState, state_of}
use Rattle.nv_desk_copies.specs.Posts.{IsPosted, IsPostedNext, answer_of, goes_over}
use Rattle.job_progress.specs.Hand.{HandState}
use Rattle.job_progress.specs.JobInHand.{HandFits, IsFruitless, IsInHand}
use Rattle.job_progress.specs.Fits.{IsExplained}
use Rattle.job_programs.proofs.Failures.{open_none}
use Rattle.nv_desk_copies.proofs.Posting.{ends_are_the_machines}
use Rattle.job_progress.proofs.Fitting.{ends_are_explained, ends_are_of_programs, kind_by}
use Rattle.nvm_device_laws.proofs.Called.{entries_keep}
use Rattle.nvm_device_laws.proofs.PaidPosts.{posts_are_paid}
use Rattle.nvm_device_laws.proofs.Pushed.{started_push}
use Rattle.nvm_laws.specs.Keeps.{StackKeeps, StaysKept}
use Rattle.nvm_laws.specs.Entries.{PostsKeep, SkippedKeep}
use Rattle.nvm_laws.proofs.Operations.{same_job}
use Rattle.nvm_laws.proofs.Keeping.{keeps_with, timed_at}
use Rattle.nvm_laws.proofs.Ordering.{order_push, starts_push}
use Rattle.nvm_laws.proofs.Paying.{pays_free, free_alone, free_refused, free_unfailed, none_result, only_none, over_by}

-- a program that ended has no instance next
none_next : (p : Program) (n : Option ℕ) (r : ReqResult) (source : GivenFrom) → step_by p n ≡ step.Ended r source → n ≡ None
none_next p (Some index) r source is = cc
none_next p None r source is = refl

step_is : (t : Bool) (h : HandState) → t ≡ false → IfElse t (IsFruitless h) (h.step ≡ step_of h.program) → h.step ≡ step_of h.program
step_is true h some is = cc
step_is false h some is = is

-- THE JOB IN HAND
module _ (d : DeviceTold) (clock : Clock) (old : DeskState) (h : HandState) (j : Job) (r : ReqResult) (source : GivenFrom) (hand : (state_of old).hand ≡ Some j)
    (is : IsInHand old.config (state_of old) h d) (over : h.step ≡ step.Ended r source) (before : Part → PartTold) (kept : StackKeeps before old (Some h) d clock) where
  abbrev own : Own
  own = own_of old.config (state_of old) (job_block j)

  abbrev answer : Answer
  answer = answer_of old.config (state_of old) j r source (given_by d.stand)

  -- what it ends with is the machine's
  is_machines : (failed : List ℕ) → IsExplained old.config (state_of old) j r source (given_by d.stand) failed → answer ≡ result_of own j failed
  is_machines failed ex = ends_are_the_machines old.config (state_of old) j r source (given_by d.stand) failed (record { open_set = ex.open_set; ends = ex.ends; gives = ex.gives })

  abbrev IsPaidNow : Answer → ℕ → Type 0
  IsPaidNow a refused = (p : Part) → IsPaid (is_of p d.fixed) old.config clock.worn (before p).faults (part_at p d).faults (old.entries ++ Post (job_block j) a.0 a.1 refused (ops_of d) ∷ [])

  free : (a : Answer) (refused : ℕ) → price_in_faults old.config (state_of old) (Post (job_block j) a.0 a.1 refused (ops_of d)) ≡ 0 → IsPaidNow a refused
  free a refused none = λ p. pays_free (is_of p d.fixed) old.config clock.worn (before p).faults (part_at p d).faults old.entries (Post (job_block j) a.0 a.1 refused (ops_of d)) none (kept.keeps.over.paid p)

  -- its program is over
  next_is : took_none j.taken ≡ false → next_in h.program ≡ None
  next_is some =
      let own_some : took_none is.job.taken ≡ false = ap (λ (k : Job). took_none k.taken) (same_job is.job j (state_of old).hand is.hand hand) ∙ some in
      none_next h.program (next_in h.program) r source (sym (step_is (took_none is.job.taken) h own_some is.step) ∙ over)

  -- of an answer for which nothing failed
  unfailed : Contains (open_sets own j (kind_of j)) [] → answer ≡ result_of own j [] → IsPaidNow answer 0
  unfailed at same = free answer 0 (free_unfailed old.config (state_of old) j answer.0 answer.1 (ops_of d) hand at same)

  restored : (failed : List ℕ) → IsExplained old.config (state_of old) j r source (given_by d.stand) failed → kind_of j ≡ RestoreJob → IsPaidNow answer 0
  restored failed ex kind =
      let none : failed ≡ [] = only_none failed (subst (λ (k : JobKind). Contains (open_sets own j k) failed) kind ex.open_set) in
      unfailed (subst (λ (xs : List ℕ). Contains (open_sets own j (kind_of j)) xs) none ex.open_set)
      (is_machines failed ex ∙ ap (λ (xs : List ℕ). result_of own j xs) none)

  as_ended : (t u : Bool) → took_none j.taken ≡ t → works (kind_of j) ≡ u → IsPaidNow answer 0
  as_ended true u none on =
      let (failed, ex) = ends_are_explained old.config (state_of old) h d j r source is hand (kept.fits j hand) over in
      unfailed (open_none own j (kind_of j) none) (is_machines failed ex ∙ (none_result own j failed none ∙ sym (none_result own j [] none)))
  as_ended false true some on =
      let (program, ex) = ends_are_of_programs old.config (state_of old) h d j r source is hand (kept.fits j hand) over on some in
      posts_are_paid d clock old.config old.cap old.entries before j h.program answer.0 answer.1 program (next_is some) (is_machines (failed_of h.program.indices h.program.done) ex)
      kept.keeps (subst (λ (b : Bool). TriesArePaid old.config clock.worn b before d old.entries h.program) (ap (λ (o : Option Job). option_map_or (λ k. (rank_of old.config k).immediate) o false) hand) kept.paid)
  as_ended false false some off =
      let (failed, ex) = ends_are_explained old.config (state_of old) h d j r source is hand (kept.fits j hand) over in
      restored failed ex (kind_by j.request off)

  pub posted_keeps : (new : DeskState) (told behind : List Told)
      → IsPosted (HandFits old.config (state_of old) (Some h) d) (job_block j) (names_ram j.request) answer (ops_of d) old new told behind
      → StackKeeps before new None d clock
  posted_keeps new told behind post =
      subst (λ (x : DeskState). StackKeeps before x None d clock) (sym post.adds) (record {
        started = started_push old.entries e;
        keeps = entries_keep d clock old.config old.cap old.entries before e kept.started kept.keeps refl (post.allowed kept.fits) refl
            (by (over_by (goes_over (desc_of old.config (job_block j)) (names_ram j.request) answer.1) answer (post.result, post.given) post.refused
            (desc_of old.config (job_block j)).repeats (job_block j) told behind post.over));
        fits = tt;
        paid = tt;
        order = order_push d clock old.config old.entries e refl kept.order;
        starts = starts_push d old.entries e refl kept.starts;
      })
    where
      e : Entry
      e = Post (job_block j) post.result post.given post.refused (ops_of d)

      by : (((post.result, post.given) ≡ answer) × (post.refused ≡ 0)) ⊎ (post.refused ≡ (desc_of old.config (job_block j)).repeats + 1)
          → IsPaidNow (post.result, post.given) post.refused
      by (inl (same, none)) = subst (λ (n : ℕ). IsPaidNow (post.result, post.given) n) (sym none)
          (subst (λ (a : Answer). IsPaidNow a 0) (sym same) (as_ended (took_none j.taken) (works (kind_of j)) refl refl))
      by (inr each) = free (post.result, post.given) post.refused
          (free_refused old.config (state_of old) (job_block j) post.result post.given post.refused (desc_of old.config (job_block j)).repeats (ops_of d) each)

pub posts_keep : (d : DeviceTold) (clock : Clock)
    → PostsKeep d clock
posts_keep d clock old new h j r source told behind hand is over post =
    keeps_with old new (Some h) None (Post (job_block j) post.result post.given post.refused (ops_of d)) d clock post.adds
    (timed_at (Post (job_block j) post.result post.given post.refused (ops_of d)) d.ops refl)
    (λ before kept. posted_keeps d clock old h j r source hand is over before kept new told behind post)

-- WITHOUT A PICK
module _ (d : DeviceTold) (clock : Clock) (old new : DeskState) (told behind : List Told)
    (none : (state_of old).hand ≡ None) where
  alone : (before : Part → PartTold) (block : ℕ) (ram : Bool) (ended : Answer) → IsPosted (Unit {0}) block ram ended (ops_of d) old new told behind → StackKeeps before old None d clock → StackKeeps before new None d clock
  alone before block ram ended post kept =
      subst (λ (x : DeskState). StackKeeps before x None d clock) (sym post.adds) (record {
        started = started_push old.entries e;
        keeps = entries_keep d clock old.config old.cap old.entries before e kept.started kept.keeps refl (post.allowed tt) refl
            (λ p. pays_free (is_of p d.fixed) old.config clock.worn (before p).faults (part_at p d).faults old.entries e
            (free_alone old.config (state_of old) block post.result post.given post.refused (ops_of d) none) (kept.keeps.over.paid p));
        fits = tt;
        paid = tt;
        order = order_push d clock old.config old.entries e refl kept.order;
        starts = starts_push d old.entries e refl kept.starts;
      })
    where
      e : Entry
      e = Post block post.result post.given post.refused (ops_of d)

  alone_kept : (block : ℕ) (ram : Bool) (ended : Answer) → IsPosted (Unit {0}) block ram ended (ops_of d) old new told behind → StaysKept old None d clock new None d clock
  alone_kept block ram ended post = keeps_with old new None None (Post block post.result post.given post.refused (ops_of d)) d clock post.adds
      (timed_at (Post block post.result post.given post.refused (ops_of d)) d.ops refl) (λ before. alone before block ram ended post)

  pub alone_by : (n : Next) → IsPostedNext n (ops_of d) old new told behind → StaysKept old None d clock new None d clock
  alone_by (PostMember sw id) post = alone_kept id true (unpicked_result (own_of old.config (state_of old) id) sw.writes) post
  alone_by (EndSweep sw) post = alone_kept 0 false (sweep_result sw, None) post
  alone_by Nothing post = absurd post
  alone_by (PickJob x) post = absurd post
  alone_by (BeginSweep sw) post = absurd post
  alone_by (PickMember sw id) post = absurd post

pub skipped_keep : (d : DeviceTold) (clock : Clock) → SkippedKeep d clock
skipped_keep d clock old new told behind none post =
    alone_by d clock old new told behind none (next_of old.config (state_of old)) post
