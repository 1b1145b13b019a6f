-- Programs behind an outcome.
use Rattle.std.proofs.Common.{◌≡◌, Bool, true, false, if◌then◌else◌, [], ◌∷◌, ◌++◌, ◌+◌, ℕ, refl, Option, Some, None}
use Rattle.block_machine.specs.nv_base.declared.job.Outcome.TheVariants.{First}
use Rattle.memif.specs.Told.{Stand, Open, Ended}
use Rattle.block_machine.specs.Words.{Outcome}
use Rattle.job_programs.specs.Program.{Program, is_again, after, after_by, next_in}
use Rattle.nvm_device_laws.specs.Outcomes.{outcome_by}
use Rattle.nvm_figures.specs.Job.{IsSameJob, program_next}

pub same_job : (p : Program) → IsSameJob p p
same_job p = record { block = refl; kind = refl; defaults = refl; indices = refl; retries = refl }

tried_same : (p : Program) (o : Outcome) (again : Bool) → IsSameJob p (if again then record p { failures = p.failures + 1 } else record p { done = p.done ++ o ∷ []; failures = 0 })
tried_same p o true = record { block = refl; kind = refl; defaults = refl; indices = refl; retries = refl }
tried_same p o false = record { block = refl; kind = refl; defaults = refl; indices = refl; retries = refl }

same_by : (p : Program) (n : Option ℕ) (o : Outcome) → IsSameJob p (after_by p n o)
same_by p None o = same_job p
same_by p (Some i) First = same_job p
same_by p (Some i) o = tried_same p o (is_again o p.failures p.retries)

pub program_same : (p : Program) (a b : Stand) → IsSameJob p (program_next p a b)
program_same p (Open j) (Open k) = same_job p
program_same p (Open j) (Ended r given) = same_by p (next_in p) (outcome_by j.mark r)
program_same p (Ended r given) b = same_job p

-- before the first operation nothing changes
pub first_stays : (p : Program) → after p First ≡ p
first_stays p = by (next_in p)
  where
    by : (n : Option ℕ) → after_by p n First ≡ p
    by None = refl
    by (Some i) = refl
