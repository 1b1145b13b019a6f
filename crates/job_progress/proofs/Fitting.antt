-- The end of a job in hand.
use Rattle.std.specs.Prelude.{unwrap_or}
use Rattle.std.specs.List.{Contains}
use Rattle.std.proofs.Common.{◌≡◌, ◌≢◌, ℕ, Bool, true, false, List, [], is_some, IsSome, Option, Some, None, refl, sym, ap, ◌∙◌, subst, arith}
use Rattle.block_machine.specs.nv_base.declared.job.JobStep.TheVariants as step
use Rattle.memif.specs.declared.answer.JobResult.TheVariants.{JobOk}
use Rattle.memif.specs.Told.{DeviceTold, Stand, Ended, given_by, IfElse}
use Rattle.block_machine.specs.Words.{ReqResult, Fine, GivenFrom, FromDevice, FromDefaults, Mark, JobKind, ReadJob, WriteJob, RestoreJob, Configuration, Request, Restore}
use Rattle.block_machine.specs.State.{State, Job}
use Rattle.block_machine.specs.Blocks.{desc_of, block_at, job_block, job_kind, kind_of, mark_by}
use Rattle.block_machine.specs.ResultTable.{table}
use Rattle.block_machine.specs.Results.{own_of, own_indices, outcomes_of, open_sets, took_none}
use Rattle.job_programs.specs.Program.{Program, works, retries_of, next_in, step_by, step_of, outcomes_in}
use Rattle.job_programs.specs.Laws.{Works, failed_of}
use Rattle.job_programs.proofs.Ends.{ends_by_the_machine}
use Rattle.job_programs.proofs.Failures.{failed_are_open, open_none}
use Rattle.job_programs.proofs.Outcomes.{reads_if}
use Rattle.job_programs.proofs.Gives.{gives_the_last_read}
use Rattle.job_programs.proofs.Worked.{programs_work, programs_work_on_their_own}
use Rattle.nvm_device_laws.specs.Tries.{IsProgramOf}
use Rattle.job_progress.specs.Hand.{HandState}
use Rattle.job_progress.specs.JobInHand.{GivesWhole, IsFruitless, IsInHand, FitsMarks}
use Rattle.job_progress.specs.Fits.{IsExplained, EndsAreExplained, EndsAreOfPrograms}

-- the end of a program
end_is : (p : Program) (n : Option ℕ) (r : ReqResult) (source : GivenFrom) → step_by p n ≡ step.Ended r source
    → (n ≡ None) × ((r, source) ≡ table p.defaults p.kind (outcomes_in p))
end_is p (Some index) r source is = cc
end_is p None r source is =
    let first : r ≡ (table p.defaults p.kind (outcomes_in p)).0 = cc in
    let second : source ≡ (table p.defaults p.kind (outcomes_in p)).1 = cc in
    (refl, rw (first, second) refl)

writes_mark : (kind : JobKind) (content : Option (List ℕ × ℕ)) → works kind ≡ true → kind ≢ ReadJob → (kind ≡ WriteJob → IsSome content) → IsSome (mark_by kind content)
writes_mark kind content on writes has = by (mark_by kind content) refl
  where
    by : (mark : Option Mark) → mark_by kind content ≡ mark → IsSome mark
    by (Some m) is = refl
    by None is = absurd (writes (reads_if kind content on has is))

module _ (c : Configuration) (s : State) (h : HandState) (d : DeviceTold) (r : ReqResult) (source : GivenFrom) (is : IsInHand c s h d)
    (fits : FitsMarks c s is.job h d.stand) (over : h.step ≡ step.Ended r source) where
  kind_is : h.program.kind ≡ kind_of is.job
  kind_is = ap (λ (q : Program). q.kind) is.working.is

  shape : Works h.program.indices
  shape = subst Works (sym (ap (λ (q : Program). q.indices) is.working.is))
      (programs_work (desc_of c (job_block is.job)) (is_some (desc_of c (job_block is.job)).defaults) (job_block is.job) (block_at s (job_block is.job)).index (kind_of is.job))

  step_is : (t : Bool) → took_none is.job.taken ≡ t → IfElse t (IsFruitless h) (h.step ≡ step_of h.program) → t ≡ false → h.step ≡ step_of h.program
  step_is true none fruitless off = cc
  step_is false none step off = step

  at_end : took_none is.job.taken ≡ false → (next_in h.program ≡ None) × ((r, source) ≡ table h.program.defaults h.program.kind (outcomes_in h.program))
  at_end some = end_is h.program (next_in h.program) r source (sym (step_is (took_none is.job.taken) refl is.step some) ∙ over)

  own_is : works (kind_of is.job) ≡ true → own_indices (own_of c s (job_block is.job)) ≡ h.program.indices
  own_is on = programs_work_on_their_own c s (job_block is.job) (job_block is.job) (is_some (desc_of c (job_block is.job)).defaults) (kind_of is.job) on
      ∙ sym (ap (λ (q : Program). q.indices) is.working.is)

  defaults_are : is_some (own_of c s (job_block is.job)).desc.defaults ≡ h.program.defaults
  defaults_are = sym (ap (λ (q : Program). q.defaults) is.working.is)

  works_on : works (kind_of is.job) ≡ true → works h.program.kind ≡ true
  works_on on = ap works kind_is ∙ on

  content_is : (x : GivenFrom) → source ≡ x → x ≡ FromDevice → (bytes : List ℕ) × (d.stand ≡ Ended JobOk bytes)
  content_is x same reads =
      let whole : GivesWhole (desc_of c (job_block is.job)).length (step.Ended r FromDevice) d.stand =
      subst (λ (y : _). GivesWhole (desc_of c (job_block is.job)).length y d.stand) (over ∙ ap (λ (g : GivenFrom). step.Ended r g) (same ∙ reads)) is.given in
      (whole.0, whole.1)

  pub explained : (on : works (kind_of is.job) ≡ true) (some : took_none is.job.taken ≡ false)
      → IsExplained c s is.job r source (given_by d.stand) (failed_of h.program.indices h.program.done)
  explained on some = record {
    open_set = failed_are_open (own_of c s (job_block is.job)) is.job h.program (own_is on) shape (sym kind_is) (works_on on) fits.fit (at_end some).0 some
        (λ writes. is.working.written (λ reads. writes (kind_is ∙ reads)));
    ends = λ got. (at_end some).1 ∙ ends_by_the_machine (own_of c s (job_block is.job)) h.program (own_is on) shape defaults_are fits.fit (at_end some).0
        ∙ ap (λ (k : JobKind). table (is_some (desc_of c (job_block is.job)).defaults) k (outcomes_of k (own_of c s (job_block is.job)).marks (failed_of h.program.indices h.program.done))) kind_is;
    gives = λ got reads.
        let (bytes, stands) = content_is source refl reads in
        let read : h.step ≡ step.Ended r FromDevice = over ∙ ap (λ (g : GivenFrom). step.Ended r g) reads in
        let device_is : (table h.program.defaults h.program.kind (outcomes_in h.program)).1 ≡ FromDevice = ap (λ (e : ReqResult × GivenFrom). e.1) (sym (at_end some).1) ∙ reads in
        ap (λ (x : Stand). Some (given_by x)) stands ∙ sym (gives_the_last_read (own_of c s (job_block is.job)) h.program (own_is on) shape fits.fit (at_end some).0 is.working.needed device_is ∙ fits.last r bytes read stands);
  }

  pub program_of_it : (on : works (kind_of is.job) ≡ true) (some : took_none is.job.taken ≡ false) → IsProgramOf c s is.job h.program
  program_of_it on some = record {
    hand = is.hand;
    block = ap (λ (q : Program). q.block) is.working.is;
    own = own_is on;
    shape = shape;
    kind = sym kind_is;
    works = works_on on;
    retries = ap (λ (q : Program). q.retries) is.working.is ∙ ap (retries_of (desc_of c (job_block is.job))) (sym kind_is);
    fits = fits.fit;
    took = some;
    written = λ writes. is.working.written (λ reads. writes (kind_is ∙ reads));
    writes = λ writes. writes_mark (kind_of is.job) is.job.content on (λ reads. writes (kind_is ∙ reads)) (λ kind. is.working.content kind some);
  }

-- WITHOUT THE DEVICE
module _ (c : Configuration) (s : State) (h : HandState) (d : DeviceTold) (r : ReqResult) (source : GivenFrom) (is : IsInHand c s h d) (over : h.step ≡ step.Ended r source) where
  -- no content was got
  pub fruitless : took_none is.job.taken ≡ true → IsExplained c s is.job r source (given_by d.stand) []
  fruitless none = record {
    open_set = open_none (own_of c s (job_block is.job)) is.job (kind_of is.job) none;
    ends = λ some. cc;
    gives = λ some reads. cc;
  }

  -- a restore
  pub restored : kind_of is.job ≡ RestoreJob → took_none is.job.taken ≡ false → h.step ≡ step_of h.program → IsExplained c s is.job r source (given_by d.stand) []
  restored kind some step =
      let same : h.program.kind ≡ RestoreJob = ap (λ (q : Program). q.kind) is.working.is ∙ kind in
      let (none, answer) = end_is h.program (next_in h.program) r source (sym step ∙ over) in
      let result_is : (r, source) ≡ (Fine, FromDefaults) = answer ∙ ap (λ (k : JobKind). table h.program.defaults k (outcomes_in h.program)) same in
      record {
        open_set = subst (λ (k : JobKind). Contains (open_sets (own_of c s (job_block is.job)) is.job k) []) (sym kind) (0, omega arith, refl);
        ends = λ got. result_is ∙ sym (ap (λ (k : JobKind). table (is_some (desc_of c (job_block is.job)).defaults) k (outcomes_of k (own_of c s (job_block is.job)).marks [])) kind);
        gives = λ got reads. let from : source ≡ FromDefaults = ap (λ (e : ReqResult × GivenFrom). e.1) result_is in cc;
      }

-- THE LAWS
-- a job that doesn't work on the device is a restore
pub kind_by : (r : Request) → works (unwrap_or (job_kind r) ReadJob) ≡ false → unwrap_or (job_kind r) ReadJob ≡ RestoreJob
kind_by (Restore block ram) off = refl
kind_by r off = cc

by_cases : (c : Configuration) (s : State) (h : HandState) (d : DeviceTold) (r : ReqResult) (source : GivenFrom) (is : IsInHand c s h d)
    → FitsMarks c s is.job h d.stand → h.step ≡ step.Ended r source → (t u : Bool) → took_none is.job.taken ≡ t → works (kind_of is.job) ≡ u
    → (failed : List ℕ) × IsExplained c s is.job r source (given_by d.stand) failed
by_cases c s h d r source is fits over true u none on = ([], fruitless c s h d r source is over none)
by_cases c s h d r source is fits over false true some on =
    (failed_of h.program.indices h.program.done, explained c s h d r source is fits over on some)
by_cases c s h d r source is fits over false false some off = (
  [],
  restored c s h d r source is over (kind_by is.job.request off) some
      (step_is c s h d r source is fits over (took_none is.job.taken) refl is.step some),
)

pub ends_are_explained : EndsAreExplained
ends_are_explained c s h d j r source is hand fits over =
    let same : is.job ≡ j = let both : Some is.job ≡ Some j = sym is.hand ∙ hand in cc in
    subst (λ (k : Job). (failed : List ℕ) × IsExplained c s k r source (given_by d.stand) failed) same
    (by_cases c s h d r source is (subst (λ (k : Job). FitsMarks c s k h d.stand) (sym same) fits) over
    (took_none is.job.taken) (works (kind_of is.job)) refl refl)

pub ends_are_of_programs : EndsAreOfPrograms
ends_are_of_programs c s h d j r source is hand fits over on some =
    let same : is.job ≡ j = let both : Some is.job ≡ Some j = sym is.hand ∙ hand in cc in
    let own_fits : FitsMarks c s is.job h d.stand = subst (λ (k : Job). FitsMarks c s k h d.stand) (sym same) fits in
    let own_on : works (kind_of is.job) ≡ true = ap (λ (k : Job). works (kind_of k)) same ∙ on in
    let own_some : took_none is.job.taken ≡ false = ap (λ (k : Job). took_none k.taken) same ∙ some in
    subst (λ (k : Job). IsProgramOf c s k h.program × IsExplained c s k r source (given_by d.stand) (failed_of h.program.indices h.program.done)) same (
      program_of_it c s h d r source is own_fits over own_on own_some,
      explained c s h d r source is own_fits over own_on own_some,
    )
