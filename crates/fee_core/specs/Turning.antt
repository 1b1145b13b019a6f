-- What the turns of a device begin with.
use Rattle.std.specs.Prelude.{◌≡◌, ◌≢◌, true, false, Some, None}
use Rattle.nv_base.specs.declared.job.DeviceOp.TheVariants.{Read}
use Rattle.fls_model.specs.Told.{Told}
use Rattle.fee_laws.specs.fee_log.Log.{work_in}
use Rattle.promise_device.specs.Making.{Making}
use Rattle.fee_laws.specs.declared.job.FeeJob.{FeeJob}
use Rattle.fee_core.specs.Whole.{Whole, Sound}

-- it is sound and started, and its power is on
pub record IsUp (m : Making) (entry : Told) (w : Whole) : Type 0 where
  pub sound : Sound m entry w
  pub started : w.parts.started ≡ true
  pub on : w.off ≡ false

-- its open job has a record, which isn't in work
pub record Waits (w : Whole) (j : FeeJob) : Type 0 where
  pub job : w.parts.job ≡ Some j
  pub writes : j.op ≢ Read
  pub idle : work_in w.parts.banks.log.tail ≡ None
