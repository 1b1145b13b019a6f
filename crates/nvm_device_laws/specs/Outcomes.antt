-- What a job of the device comes to, as the program that asked for it sees it.
use Rattle.std.specs.Prelude.{◌≡◌, ◌≢◌, ℕ, List, Option, Some, None}
use Rattle.std.specs.List.{Contains}
use Rattle.block_machine.specs.nv_base.declared.instance.DeviceNumber.{DeviceNumber}
use Rattle.block_machine.specs.nv_base.Marks.{instance_of}
use Rattle.block_machine.specs.block_config.Lengths.{lengths_of}
use Rattle.memif.specs.declared.answer.JobResult.{JobResult}
use Rattle.memif.specs.declared.answer.JobResult.TheVariants.{JobOk, BlockInconsistent, BlockInvalid}
use Rattle.memif.specs.Told.{DeviceTold, Job, Open, Ended}
use Rattle.block_machine.specs.Words.{Mark, Content, JobKind, ReadJob, Outcome, WroteMark, ReadContent, FoundErased, FoundInvalid}
use Rattle.block_machine.specs.Words.{Failed, Configuration}
use Rattle.block_machine.specs.State.{State}
use Rattle.block_machine.specs.Blocks.{settled_at}
use Rattle.block_machine.specs.Results.{outcome_of}
use Rattle.job_programs.specs.Program.{is_failed}
use Rattle.nvm_device_laws.specs.Pairing.{Agrees, Pairs}

-- of a read, and of a job that was to settle a mark
abbrev pub outcome_by : Option Mark → JobResult → Outcome
outcome_by None JobOk = ReadContent
outcome_by None BlockInvalid = FoundInvalid
outcome_by None BlockInconsistent = FoundErased
outcome_by (Some mark) JobOk = WroteMark
outcome_by mark result = Failed

-- A read finds what is settled, or fails of a content, and what it gives is the settled content; any other operation
-- writes its mark, or fails.
abbrev pub FitsSettled : Option Mark → Mark → JobResult → List ℕ → Type 0
FitsSettled None settled r given = (outcome_of ReadJob settled (is_failed (outcome_by None r)) ≡ outcome_by None r)
    × (r ≡ JobOk → settled ≡ Content given)
FitsSettled (Some mark) settled r given = (kind : JobKind) → kind ≢ ReadJob
    → outcome_of kind settled (is_failed (outcome_by (Some mark) r)) ≡ outcome_by (Some mark) r

-- a job that ends comes to an outcome that fits the machine's settled mark of its instance
abbrev pub OutcomesFit : DeviceTold → DeviceTold → Type 0
OutcomesFit old new =
    (c : Configuration) (s : State) (due : ℕ → ℕ) (j : Job) (x : DeviceNumber × ℕ) (r : JobResult) (given : List ℕ)
    → old.stand ≡ Open j → new.stand ≡ Ended r given
    → Pairs Agrees c s due old.fixed.numbers old.slots → Contains (lengths_of c) x → x.0.0 ≡ j.number
    → FitsSettled j.mark (settled_at s (instance_of x.0)) r given
