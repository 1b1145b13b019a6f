-- What a job's kind says of its mark and of the outcomes of its operations.
use Rattle.std.proofs.Common.{◌≡◌, ◌≢◌, ℕ, Bool, true, if◌then◌else◌, List, IsSome, Option, Some, None, refl, ap, ◌∙◌}
use Rattle.block_machine.specs.nv_base.declared.job.Outcome.TheVariants.{First}
use Rattle.block_machine.specs.Words.{Mark, JobKind, ReadJob, WriteJob, Outcome, WroteMark, Failed}
use Rattle.block_machine.specs.Blocks.{mark_by}
use Rattle.block_machine.specs.Results.{outcome_of}
use Rattle.job_programs.specs.Program as program
use Rattle.job_programs.specs.Program.{Program, works, next_in, tried, after_by}

-- an outcome of an operation isn't the one before the first
pub after_is : (p : Program) (o : Outcome) (index : ℕ) → next_in p ≡ Some index → o ≢ First → program.after p o ≡ tried p o
after_is p o index at other = ap (λ (n : Option ℕ). after_by p n o) at ∙ by o other
  where
    by : (o : Outcome) → o ≢ First → after_by p (Some index) o ≡ tried p o
    by First other = absurd (other refl)
    by o other = refl

-- of another operation than a read it doesn't depend on what is settled
pub no_read_is : (kind : JobKind) (settled : Mark) (failed : Bool) → kind ≢ ReadJob → outcome_of kind settled failed ≡ (if failed then Failed else WroteMark)
no_read_is ReadJob settled failed other = absurd (other refl)
no_read_is kind settled failed other = refl

-- a job that works at the device and has no mark reads
pub reads_if : (kind : JobKind) (content : Option (List ℕ × ℕ)) → works kind ≡ true → (kind ≡ WriteJob → IsSome content) → mark_by kind content ≡ None → kind ≡ ReadJob
reads_if ReadJob content on has none = refl
reads_if WriteJob (Some x) on has none = cc
reads_if WriteJob None on has none = let some = has refl in cc
reads_if kind content on has none = cc
