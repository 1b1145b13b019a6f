-- The hand behind an outcome.
use Rattle.std.proofs.Common.{◌≡◌, ◌≢◌, ℕ, ◌+◌, ◌≤◌, Bool, true, false, if◌then◌else◌, List, [], ◌∷◌, ◌++◌, length, is_some, Some, refl, sym, ap, ◌∙◌, subst, arith}
use Rattle.block_machine.specs.nv_base.declared.job.Outcome.TheVariants.{First}
use Rattle.memif.specs.declared.answer.JobResult.TheVariants.{JobOk}
use Rattle.memif.specs.Told.{DeviceTold, Stand, Ended, is_open}
use Rattle.block_machine.specs.Words.{ReadJob, Outcome, ReadContent, Configuration}
use Rattle.block_machine.specs.State.{State, Job, BlockState}
use Rattle.block_machine.specs.Blocks.{desc_of, block_at, job_block, kind_of}
use Rattle.block_machine.specs.Results.{took_none}
use Rattle.job_programs.specs.Program as program
use Rattle.job_programs.specs.Program.{Program, program_of, next_in, step_of, is_again, tried}
use Rattle.job_programs.specs.Laws.{Works}
use Rattle.job_programs.specs.Failures.{served_of}
use Rattle.job_programs.proofs.Failures.{tries_are_counted}
use Rattle.job_programs.proofs.Outcomes.{after_is}
use Rattle.job_programs.proofs.Gives.{programs_go_as_needed}
use Rattle.job_programs.proofs.Worked.{programs_work}
use Rattle.job_progress.specs.Hand.{HandState, ended}
use Rattle.job_progress.specs.JobInHand.{GivesWhole, IsWorking, IsInHand, program_for}
use Rattle.job_progress.proofs.Given.{gives_done}
use Rattle.job_progress.proofs.Going.{next_of_done, tried_is}

-- the program of a job whose block and request stayed
pub same_at : (c : Configuration) (s t : State) (j : Job) → block_at t (job_block j) ≡ block_at s (job_block j) → program_for c t j ≡ program_for c s j
same_at c s t j same =
    ap (λ (b : BlockState). program_of (desc_of c (job_block j)) (is_some (desc_of c (job_block j)).defaults) (job_block j) b.index (kind_of j)) same

same_program : (c : Configuration) (s t : State) (j : Job) (n : ℕ) (w : List ℕ) → ((id : ℕ) → block_at t id ≡ block_at s id)
    → program_for c t (record j { reserved = n; written = w }) ≡ program_for c s j
same_program c s t j n w blocks =
    ap (λ (b : BlockState). program_of (desc_of c (job_block j)) (is_some (desc_of c (job_block j)).defaults) (job_block j) b.index (kind_of j)) (blocks (job_block j))

-- a program whose operation is tried again gives nothing yet
again_gives : (size : ℕ) (stand : Stand) (p : Program) (index : ℕ) → next_in p ≡ Some index → GivesWhole size (step_of (record p { failures = p.failures + 1 })) stand
again_gives size stand p index next = rw next tt

tried_gives : (size : ℕ) (stand : Stand) (p : Program) (o : Outcome) (index : ℕ)
    → (o ≡ ReadContent → (bytes : List ℕ) × (stand ≡ Ended JobOk bytes) × (length bytes ≡ size)) → Works p.indices
    → next_in p ≡ Some index → GivesWhole size (step_of (tried p o)) stand
tried_gives size stand p o index whole shape next = by (is_again o p.failures p.retries)
  where
    by : (t : Bool) → GivesWhole size (step_of (if t then record p { failures = p.failures + 1 } else record p { done = p.done ++ o ∷ []; failures = 0 })) stand
    by true = again_gives size stand p index next
    by false = let (on, has) = next_of_done p index next in gives_done size stand o whole p index shape has on

module _ (c : Configuration) (s : State) (h : HandState) (old new : DeviceTold) (is : IsInHand c s h old) (index : ℕ) (next : next_in h.program ≡ Some index) (some : took_none is.job.taken ≡ false)
    (o : Outcome) (other : o ≢ First) (t : State) (n : ℕ) (w : List ℕ) (hand : t.hand ≡ Some (record is.job { reserved = n; written = w }))
    (blocks : (id : ℕ) → block_at t id ≡ block_at s id)
    (written : kind_of is.job ≢ ReadJob → w ≡ served_of (tried h.program o).indices (tried h.program o).done)
    (closed : is_open new.stand ≡ false)
    (whole : o ≡ ReadContent → (bytes : List ℕ) × (new.stand ≡ Ended JobOk bytes) × (length bytes ≡ (desc_of c (job_block is.job)).length)) where
  p : Program
  p = h.program

  abbrev after : Program
  after = program.after h.program o

  now_is : after ≡ tried h.program o
  now_is = after_is h.program o index next other

  pub shape : Works h.program.indices
  shape = subst Works (sym (ap (λ (q : Program). q.indices) is.working.is))
      (programs_work (desc_of c (job_block is.job)) (is_some (desc_of c (job_block is.job)).defaults) (job_block is.job) (block_at s (job_block is.job)).index (kind_of is.job))

  abbrev with : List Outcome → ℕ → Program → Program
  with done failures q = record q { done = done; failures = failures }

  now_by : tried h.program o ≡ with (tried h.program o).done (tried h.program o).failures (program_for c t (record is.job { reserved = n; written = w }))
  now_by = tried_is h.program o ∙ ap (with (tried h.program o).done (tried h.program o).failures) (is.working.is)
      ∙ ap (with (tried h.program o).done (tried h.program o).failures) (sym (same_program c s t is.job n w blocks))

  kind_now : after.kind ≡ h.program.kind
  kind_now = ap (λ (q : Program). q.kind) (now_is ∙ tried_is h.program o)

  tries_now : (tried h.program o).failures ≤ (tried h.program o).retries
  tries_now =
      let few : (program.after h.program o).failures ≤ h.program.retries = (tries_are_counted h.program o is.working.tries).0 in
      let same : (tried h.program o).retries ≡ h.program.retries = ap (λ (q : Program). q.retries) (tried_is h.program o) in
      let at : (program.after h.program o).failures ≡ (tried h.program o).failures = ap (λ (q : Program). q.failures) now_is in
      omega (arith, few, same, at)

  working : IsWorking c t (record is.job { reserved = n; written = w }) after
  working = record {
    is = rw now_is now_by;
    tries = rw (now_is) tries_now;
    needed = rw kind_now (programs_go_as_needed h.program o is.working.needed);
    written = λ writes. rw now_is (written writes);
    content = is.working.content;
  }

  pub goes_on : IsInHand c t (ended o h) new
  goes_on = record {
    job = record is.job { reserved = n; written = w };
    hand = hand;
    working = working;
    step = rw some refl;
    at = closed;
    given = rw now_is (tried_gives (desc_of c (job_block is.job)).length new.stand h.program o index whole shape next);
  }
