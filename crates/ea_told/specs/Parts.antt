-- The fields of a device.
use Rattle.std.specs.Prelude.{ℕ, Bool, List, Option}
use Rattle.nv_base.specs.declared.geometry.Geometry.{Geometry}
use Rattle.nv_base.specs.declared.instance.DeviceNumber.{DeviceNumber}
use Rattle.memif.specs.declared.answer.JobResult.{JobResult}
use Rattle.fls_model.specs.Told.{Change}
use Rattle.fls_jobs.specs.State.{FlsState}
use Rattle.ea_told.specs.declared.job.EaJob.{EaJob}
use Rattle.ea_told.specs.declared.state.SlotState.{SlotState}

pub record Parts : Type 0 where
  pub fls : FlsState
  pub geometry : Geometry
  pub numbers : List (DeviceNumber × ℕ)
  -- what is kept of each number, in their order
  pub states : List SlotState
  -- room for a content: the open job's, or the one that the last job read
  pub content : List ℕ
  pub job : Option EaJob
  -- what the last job came to, and the length of the content that it gave
  pub last : JobResult
  pub given : ℕ
  pub starts : ℕ
  pub started : Bool
  -- a power cut stands
  pub off : Bool
  -- the changing operations, until their last count
  pub ops : ℕ
  pub faults : ℕ
  pub operations : List Change
