-- What each call that isn't a turn makes of the parts of a device.
use Rattle.std.specs.Prelude.{◌+◌, ℕ, Bool, [], List, None, Some, false, if◌then◌else◌, is_some}
use Rattle.nv_base.specs.Plan.{dropped}
use Rattle.memif.specs.declared.answer.JobResult.TheVariants.{JobOk, JobCanceled}
use Rattle.fls_model.specs.Told.{armed}
use Rattle.fls_jobs.specs.declared.answer.FlsResult.{FlsResult}
use Rattle.fee_switch_laws.specs.fee_log.Log.{work_in}
use Rattle.fee_switch_laws.specs.fee_log.Step.{given_up}
use Rattle.fee_switch_laws.specs.fee_switch.Banks.{BanksState}
use Rattle.fee_laws.specs.declared.job.FeeJob.{FeeJob}
use Rattle.fee_laws.specs.Inside.{Parts}

-- nothing was done yet
abbrev pub fresh : Parts → Parts
fresh s = record s { job = None; last = JobOk; given = 0; starts = 0; started = false; faults = 0; worn = None; operations = [] }

-- a plan at its flash
abbrev pub with_plan : ℕ → ℕ → Parts → Parts
with_plan nth keep s = record s { fls = record s.fls { flash = armed nth keep s.fls.flash } }

-- a start-up, with the banks behind it, the count of the flash's faults and its own
abbrev pub started_with : Parts → BanksState → FlsResult → ℕ → Bool → ℕ → Parts
started_with s b result flash_faults ready faults = record s {
  fls = record s.fls { flash = record s.fls.flash { faults = flash_faults; off = false; planning = dropped s.fls.flash.planning }; result = result };
  banks = b;
  job = None;
  last = JobOk;
  given = 0;
  starts = s.starts + 1;
  started = ready;
  faults = faults;
}

-- a job opens
abbrev pub opened : FeeJob → List ℕ → Parts → Parts
opened j content s = record s { content = content; job = Some j; given = 0 }

-- a record in work is given up
abbrev pub without_work : BanksState → BanksState
without_work b = if is_some (work_in b.log.tail) then record b { log = given_up b.log } else b

-- it is canceled, with these banks behind it
abbrev pub canceled : BanksState → Parts → Parts
canceled b s = record s { banks = b; job = None; last = JobCanceled; given = 0 }
