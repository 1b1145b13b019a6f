-- What a program saw, behind one outcome more.
use Rattle.std.specs.Prelude.{slice_get, ◌-◌}
use Rattle.std.specs.Option.{option_and_then}
use Rattle.std.proofs.Common.{◌≡◌, ◌≢◌, ◌⊎◌, ℕ, zero, suc, ◌+◌, Bool, true, false, if◌then◌else◌, List, [], ◌∷◌, ◌++◌, length, map, Option, Some, None, refl, sym, ap, ◌∙◌, subst, inl, inr, arith}
use Rattle.std.proofs.lemmas.List.{length-append}
use Rattle.block_machine.specs.nv_base.declared.job.JobStep.TheVariants as step
use Rattle.block_machine.specs.nv_base.declared.job.Outcome.TheVariants.{First}
use Rattle.memif.specs.declared.answer.JobResult.{JobResult}
use Rattle.memif.specs.declared.answer.JobResult.TheVariants.{JobOk, JobFailed, JobPending, JobCanceled, BlockInconsistent, BlockInvalid}
use Rattle.memif.specs.Told.{Stand, Ended}
use Rattle.block_machine.specs.Words.{Mark, Content, JobKind, ReadJob, Outcome, WroteMark, Failed, ReqResult, FromDevice}
use Rattle.block_machine.specs.ResultTable.{table}
use Rattle.block_machine.specs.Results.{outcome_of, content_of}
use Rattle.job_programs.specs.Program as program
use Rattle.job_programs.specs.Program.{Program, next_in, step_by, step_of, ended_by, outcomes_in, is_failed, is_again}
use Rattle.job_programs.specs.Laws.{Fit, last_content}
use Rattle.job_programs.proofs.Outcomes.{after_is, no_read_is}
use Rattle.nvm_device_laws.specs.Outcomes.{outcome_by}

-- it fits these settled marks, and what the device has read last is the last of them
abbrev pub Seen : List (ℕ × Mark) → Program → Stand → Type 0
Seen marks q stand = Fit q.kind marks q.done
    × ((r : ReqResult) (bytes : List ℕ) → step_of q ≡ step.Ended r FromDevice → stand ≡ Ended JobOk bytes → last_content marks (length q.done) ≡ Some bytes)

-- OUTCOMES
pub reads_or : (kind : JobKind) → (kind ≡ ReadJob) ⊎ (kind ≢ ReadJob)
reads_or ReadJob = inl refl
reads_or kind = inr (λ e. cc)

pub wrote_fits : (kind : JobKind) (mark settled : Mark) (r : JobResult) → kind ≢ ReadJob
    → outcome_of kind settled (is_failed (outcome_by (Some mark) r)) ≡ outcome_by (Some mark) r
wrote_fits kind mark settled r other = no_read_is kind settled (is_failed (outcome_by (Some mark) r)) other ∙ by r
  where
    by : (r : JobResult) → (if is_failed (outcome_by (Some mark) r) then Failed else WroteMark) ≡ outcome_by (Some mark) r
    by JobOk = refl
    by JobFailed = refl
    by JobPending = refl
    by JobCanceled = refl
    by BlockInconsistent = refl
    by BlockInvalid = refl

-- MARKS
pub map_at : {A B : Type 0} (f : A → B) (xs : List A) (n : ℕ) (x : A) → slice_get xs n ≡ Some x → slice_get (map f xs) n ≡ Some (f x)
map_at f [] n x has = cc
map_at f (y ∷ ys) zero x has = let same : y ≡ x = cc in ap (λ z. Some (f z)) same
map_at f (y ∷ ys) (suc n) x has = map_at f ys n x has

pub fit_push : (kind : JobKind) (marks : List (ℕ × Mark)) (done : List Outcome) (o : Outcome) (m : ℕ × Mark) → Fit kind marks done
    → slice_get marks (length done) ≡ Some m → outcome_of kind m.1 (is_failed o) ≡ o → Fit kind marks (done ++ o ∷ [])
fit_push kind [] [] o m fit has is = cc
fit_push kind [] (x ∷ xs) o m fit has is = absurd fit
fit_push kind (y ∷ ys) [] o m fit has is = let same : y ≡ m = cc in (subst (λ (z : ℕ × Mark). outcome_of kind z.1 (is_failed o) ≡ o) (sym same) is, tt)
fit_push kind (y ∷ ys) (x ∷ xs) o m fit has is = (fit.0, fit_push kind ys xs o m fit.1 has is)

-- what another operation than a read saw fits whatever is settled at the same instances
pub fit_other : (kind : JobKind) → kind ≢ ReadJob → (f g : ℕ → Mark) (xs : List ℕ) (done : List Outcome) → Fit kind (map (λ i. (i, f i)) xs) done → Fit kind (map (λ i. (i, g i)) xs) done
fit_other kind other f g xs [] fit = tt
fit_other kind other f g [] (o ∷ os) fit = absurd fit
fit_other kind other f g (x ∷ xs) (o ∷ os) fit = (
  no_read_is kind (g x) (is_failed o) other ∙ sym (no_read_is kind (f x) (is_failed o) other) ∙ fit.0,
  fit_other kind other f g xs os fit.1,
)

last_push : (marks : List (ℕ × Mark)) (n k : ℕ) (m : ℕ × Mark) (bytes : List ℕ) → slice_get marks n ≡ Some m → m.1 ≡ Content bytes → k ≡ n + 1
    → last_content marks k ≡ Some bytes
last_push marks n k m bytes has whole is =
    let at : k - 1 ≡ n = omega (arith, is) in
    ap (λ (i : ℕ). option_and_then (λ (x : ℕ × Mark). content_of x.1) (slice_get marks i)) at
    ∙ (ap (λ (o : Option (ℕ × Mark)). option_and_then (λ (x : ℕ × Mark). content_of x.1) o) has ∙ ap content_of whole)

-- THE END
no_end : (q : Program) (n : Option ℕ) (index : ℕ) (r : ReqResult) → n ≡ Some index → step_by q n ≡ step.Ended r FromDevice → ⊥
no_end q (Some i) index r at is = cc
no_end q None index r at is = cc

none_given : (kind : JobKind) (defaults : Bool) (os : List Outcome) (r : ReqResult) → kind ≢ ReadJob → ended_by (table defaults kind os) ≡ step.Ended r FromDevice → ⊥
none_given ReadJob defaults os r other is = absurd (other refl)
none_given kind defaults os r other is = cc

none_read : (q : Program) (n : Option ℕ) (r : ReqResult) → q.kind ≢ ReadJob → step_by q n ≡ step.Ended r FromDevice → ⊥
none_read q (Some i) r other is = cc
none_read q None r other is = none_given q.kind q.defaults (outcomes_in q) r other is

module _ (p : Program) (o : Outcome) (index : ℕ) (next : next_in p ≡ Some index) (other : o ≢ First) (marks : List (ℕ × Mark)) (m : ℕ × Mark)
    (fit : Fit p.kind marks p.done) (at : slice_get marks (length p.done) ≡ Some m) (fits : outcome_of p.kind m.1 (is_failed o) ≡ o) (stand : Stand)
    (whole : p.kind ≡ ReadJob → (bytes : List ℕ) → stand ≡ Ended JobOk bytes → m.1 ≡ Content bytes) where
  done_last : (p.kind ≡ ReadJob) ⊎ (p.kind ≢ ReadJob) → (r : ReqResult) (bytes : List ℕ)
      → step_of (record p { done = p.done ++ o ∷ []; failures = 0 }) ≡ step.Ended r FromDevice → stand ≡ Ended JobOk bytes
      → last_content marks (length (p.done ++ o ∷ [])) ≡ Some bytes
  done_last (inl reads) r bytes is stands = last_push marks (length p.done) (length (p.done ++ o ∷ [])) m bytes at (whole reads bytes stands) (length-append p.done (o ∷ []))
  done_last (inr writes) r bytes is stands = absurd (none_read (record p { done = p.done ++ o ∷ []; failures = 0 }) (next_in (record p { done = p.done ++ o ∷ []; failures = 0 })) r writes is)

  seen_by : (t : Bool) → Seen marks (if t then record p { failures = p.failures + 1 } else record p { done = p.done ++ o ∷ []; failures = 0 }) stand
  seen_by true = (fit, λ r bytes is stands. absurd (no_end (record p { failures = p.failures + 1 }) (next_in p) index r next is))
  seen_by false = (fit_push p.kind marks p.done o m fit at fits, done_last (reads_or p.kind))

  pub seen_after : Seen marks (program.after p o) stand
  seen_after = subst (λ (q : Program). Seen marks q stand) (sym (after_is p o index next other)) (seen_by (is_again o p.failures p.retries))
