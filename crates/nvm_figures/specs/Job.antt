-- A job in hand at the device.
use Rattle.std.specs.Prelude.{◌≡◌, ℕ, List, Bool, Option, Some, None}
use Rattle.block_machine.specs.nv_base.declared.job.DeviceOp.{DeviceOp}
use Rattle.block_machine.specs.nv_base.declared.job.DeviceOp.TheVariants as op
use Rattle.block_machine.specs.nv_base.declared.mark.Mark.TheVariants as mark
use Rattle.block_machine.specs.nv_base.Marks.{number_of}
use Rattle.memif.specs.Told.{Job, Stand, Open, Ended, op_of}
use Rattle.memif.specs.Calls.{Wish}
use Rattle.job_programs.specs.Program.{Program, operation, next_in, after}
use Rattle.nvm_device_laws.specs.Outcomes.{outcome_by}
use Rattle.nvm_device_laws.specs.Turn.{read_wish, write_wish, mark_wish}

-- the same job, of which more may be done
pub record IsSameJob (p q : Program) : Type 0 where
  pub block : q.block ≡ p.block
  pub kind : q.kind ≡ p.kind
  pub defaults : q.defaults ≡ p.defaults
  pub indices : q.indices ≡ p.indices
  pub retries : q.retries ≡ p.retries

-- a job of the device is the operation that a program is at
pub record IsOperation (p : Program) (index : ℕ) (j : Job) : Type 0 where
  pub next : next_in p ≡ Some index
  pub number : j.number ≡ number_of (record { block = p.block; index = index })
  pub operation : op_of j.mark ≡ operation p.kind

-- behind a turn of the device: a job that ended gave its outcome
abbrev pub program_next : Program → Stand → Stand → Program
program_next p (Open j) (Ended result given) = after p (outcome_by j.mark result)
program_next p old new = p

abbrev pub hand_next : Option Program → Stand → Stand → Option Program
hand_next None old new = None
hand_next (Some p) old new = Some (program_next p old new)

-- what an operation asks the device for
abbrev pub wish_for : DeviceOp → ℕ → ℕ → List ℕ → Bool → Wish
wish_for op.Read number length content urgent = read_wish number length
wish_for op.Write number length content urgent = write_wish number content urgent
wish_for op.Invalidate number length content urgent = mark_wish number mark.Invalid
wish_for op.Erase number length content urgent = mark_wish number mark.Erased

-- the job of a program's operation on an instance
abbrev pub job_at : Program → ℕ → List ℕ → Bool → Job
job_at p index content urgent = (wish_for (operation p.kind) (number_of (record { block = p.block; index = index })) 0 content urgent).job
