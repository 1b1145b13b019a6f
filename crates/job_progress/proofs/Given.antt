-- What a job gives that the device read.
use Rattle.std.specs.Prelude.{slice_get}
use Rattle.std.specs.List.{list_any}
use Rattle.std.proofs.Common.{◌≡◌, ℕ, Bool, true, false, if◌then◌else◌, List, [], ◌∷◌, ◌++◌, length, Option, Some, None, refl, sym, subst, inl, inr}
use Rattle.block_machine.specs.nv_base.declared.job.Outcome.TheVariants.{First}
use Rattle.memif.specs.declared.answer.JobResult.TheVariants.{JobOk}
use Rattle.memif.specs.Told.{Stand, Ended}
use Rattle.block_machine.specs.Words.{ReqResult, NotOk, IntegrityFailed, JobKind, ReadJob, WriteJob, RestoreJob, EraseJob, InvalidateJob, ReadAllJob, WriteAllJob, Outcome, WroteMark, ReadContent, FoundErased, FoundInvalid, Failed}
use Rattle.block_machine.specs.ResultTable.{defaults_or, read_one, read_copies}
use Rattle.job_programs.specs.Program.{Program, settles, next_in, step_by, step_of, ended_by}
use Rattle.job_programs.specs.Laws.{Works}
use Rattle.job_progress.specs.JobInHand.{GivesWhole}

-- a program with these outcomes
abbrev with_done : ℕ → JobKind → Bool → List ℕ → ℕ → List Outcome → ℕ → Program
with_done block kind defaults indices retries done failures = record { block = block; kind = kind; defaults = defaults; indices = indices; retries = retries; done = done; failures = failures }

module _ (size : ℕ) (stand : Stand) (o : Outcome)
    (whole : o ≡ ReadContent → (bytes : List ℕ) × (stand ≡ Ended JobOk bytes) × (length bytes ≡ size)) where
  nothing : (d : Bool) (r : ReqResult) → GivesWhole size (ended_by (defaults_or d r)) stand
  nothing true r = tt
  nothing false r = tt

  one_by : (d : Bool) (x : Outcome) → o ≡ x → GivesWhole size (ended_by (read_one d x)) stand
  one_by d ReadContent is = whole is
  one_by d FoundInvalid is = tt
  one_by d FoundErased is = nothing d IntegrityFailed
  one_by d First is = nothing d NotOk
  one_by d WroteMark is = nothing d NotOk
  one_by d Failed is = nothing d NotOk

  copies_by : (d : Bool) (a b : Outcome) → settles ReadJob a ≡ false → o ≡ b → GivesWhole size (ended_by (read_copies d a b)) stand
  copies_by d ReadContent b off is = cc
  copies_by d FoundInvalid b off is = cc
  copies_by d FoundErased ReadContent off is = whole is
  copies_by d FoundErased FoundInvalid off is = tt
  copies_by d FoundErased FoundErased off is = nothing d IntegrityFailed
  copies_by d FoundErased First off is = nothing d NotOk
  copies_by d FoundErased WroteMark off is = nothing d NotOk
  copies_by d FoundErased Failed off is = nothing d NotOk
  copies_by d a ReadContent off is = whole is
  copies_by d a FoundInvalid off is = tt
  copies_by d a b off is = nothing d NotOk

  -- copy 0 alone
  first_by : (block : ℕ) (d : Bool) (i j : ℕ) (retries failures : ℕ) (x : Outcome) → o ≡ x
      → GivesWhole size (step_of (with_done block ReadJob d (i ∷ j ∷ []) retries (x ∷ []) failures)) stand
  first_by block d i j retries failures ReadContent is = whole is
  first_by block d i j retries failures FoundInvalid is = tt
  first_by block d i j retries failures FoundErased is = tt
  first_by block d i j retries failures First is = tt
  first_by block d i j retries failures WroteMark is = tt
  first_by block d i j retries failures Failed is = tt

  both_by : (block : ℕ) (d : Bool) (i j : ℕ) (retries failures : ℕ) (a b : Outcome) → settles ReadJob a ≡ false → o ≡ b
      → GivesWhole size (step_of (with_done block ReadJob d (i ∷ j ∷ []) retries (a ∷ b ∷ []) failures)) stand
  both_by block d i j retries failures a b off is = by (list_any (settles ReadJob) (a ∷ b ∷ []))
    where
      by : (t : Bool) → GivesWhole size (step_by (with_done block ReadJob d (i ∷ j ∷ []) retries (a ∷ b ∷ []) failures) (if t then None else None)) stand
      by true = copies_by d a b off is
      by false = copies_by d a b off is

  one_done : (block : ℕ) (d : Bool) (i : ℕ) (retries failures : ℕ) (x : Outcome) → o ≡ x
      → GivesWhole size (step_of (with_done block ReadJob d (i ∷ []) retries (x ∷ []) failures)) stand
  one_done block d i retries failures x is = by (list_any (settles ReadJob) (x ∷ []))
    where
      by : (t : Bool) → GivesWhole size (step_by (with_done block ReadJob d (i ∷ []) retries (x ∷ []) failures) (if t then None else None)) stand
      by true = one_by d x is
      by false = one_by d x is

  read_by : (block : ℕ) (d : Bool) (indices : List ℕ) (retries failures : ℕ) (done : List Outcome) (index : ℕ) → Works indices
      → slice_get indices (length done) ≡ Some index → list_any (settles ReadJob) done ≡ false
      → GivesWhole size (step_of (with_done block ReadJob d indices retries (done ++ o ∷ []) failures)) stand
  read_by block d [] retries failures done index works has open_now = cc
  read_by block d (i ∷ []) retries failures [] index works has on = one_done block d i retries failures o refl
  read_by block d (i ∷ []) retries failures (x ∷ xs) index works has on = cc
  read_by block d (i ∷ j ∷ []) retries failures [] index works has on = first_by block d i j retries failures o refl
  read_by block d (i ∷ j ∷ []) retries failures (a ∷ []) index works has on = both_by block d i j retries failures a o (only (settles ReadJob a) on) refl
    where
      only : (t : Bool) → list_any (λ (b : Bool). b) (t ∷ []) ≡ false → t ≡ false
      only true is = cc
      only false is = refl
  read_by block d (i ∷ j ∷ []) retries failures (a ∷ b ∷ rest) index works has on = cc
  read_by block d (i ∷ j ∷ k ∷ rest) retries failures done index (inl is) has on = cc
  read_by block d (i ∷ j ∷ k ∷ rest) retries failures done index (inr (inl (x, is))) has on = cc
  read_by block d (i ∷ j ∷ k ∷ rest) retries failures done index (inr (inr is)) has on = cc

  -- a job that is no read gives nothing that was read
  other_by : (block : ℕ) (kind : JobKind) (d : Bool) (indices : List ℕ) (retries failures : ℕ) (done : List Outcome) (n : Option ℕ) (index : ℕ)
      → Works indices → slice_get indices (length done) ≡ Some index → list_any (settles kind) done ≡ false → n ≡ next_in (with_done block kind d indices retries (done ++ o ∷ []) failures)
      → GivesWhole size (step_by (with_done block kind d indices retries (done ++ o ∷ []) failures) n) stand
  other_by block kind d indices retries failures done (Some i) index works has on is = tt
  other_by block ReadJob d indices retries failures done None index works has on is =
      subst (λ (n : Option ℕ). GivesWhole size (step_by (with_done block ReadJob d indices retries (done ++ o ∷ []) failures) n) stand) (sym is)
      (read_by block d indices retries failures done index works has on)
  other_by block WriteJob d indices retries failures done None index works has on is = tt
  other_by block RestoreJob d indices retries failures done None index works has on is = tt
  other_by block EraseJob d indices retries failures done None index works has on is = tt
  other_by block InvalidateJob d indices retries failures done None index works has on is = tt
  other_by block ReadAllJob d indices retries failures done None index works has on is = tt
  other_by block WriteAllJob d indices retries failures done None index works has on is = tt

  pub gives_done : (p : Program) (index : ℕ) → Works p.indices → slice_get p.indices (length p.done) ≡ Some index → list_any (settles p.kind) p.done ≡ false
      → GivesWhole size (step_of (record p { done = p.done ++ o ∷ []; failures = 0 })) stand
  gives_done p index works has on = other_by p.block p.kind p.defaults p.indices p.retries 0 p.done
      (next_in (record p { done = p.done ++ o ∷ []; failures = 0 })) index works has on refl
