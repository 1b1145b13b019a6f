-- When a request on all blocks is picked.
use Rattle.std.specs.Prelude.{◌≡◌, ℕ, Bool, if◌then◌else◌}
use Rattle.block_machine.specs.Words.{JobKind, ReqResult, ReadAllJob, WriteAllJob}
use Rattle.block_machine.specs.State.{Sweep}
use Rattle.block_machine.specs.Sweeps.{sweep_result}
use Rattle.block_machine.specs.Next.{BeginSweep, EndSweep, next_of}
use Rattle.block_machine.specs.Legal.{IsDriving}
use Rattle.nv_desk.specs.Desk.{DeskState, state_of}

abbrev pub sweep_kind : Bool → JobKind
sweep_kind writes = if writes then WriteAllJob else ReadAllJob

-- it is what the machine turns to next
pub record MayBegin (d : DeskState) (ops : ℕ) : Type 0 where
  pub sweep : Sweep
  pub is : next_of d.config (state_of d) ≡ BeginSweep sweep
  pub driving : IsDriving (state_of d) ops

-- it ends next, with this result
pub record MayFinish (d : DeskState) (answer : ReqResult) (ops : ℕ) : Type 0 where
  pub sweep : Sweep
  pub is : next_of d.config (state_of d) ≡ EndSweep sweep
  pub result_is : answer ≡ sweep_result sweep
  pub driving : IsDriving (state_of d) ops
