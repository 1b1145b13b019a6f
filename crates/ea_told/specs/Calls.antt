-- What the calls that aren't turns make of the fields of a device.
use Rattle.std.specs.Prelude.{ℕ, List, Some, None}
use Rattle.memif.specs.declared.answer.JobResult.TheVariants.{JobCanceled}
use Rattle.fls_model.specs.Told.{armed}
use Rattle.ea_told.specs.declared.job.EaJob.{EaJob}
use Rattle.ea_told.specs.Parts.{Parts}

-- a plan at its flash
abbrev pub with_plan : ℕ → ℕ → Parts → Parts
with_plan nth keep s = record s { fls = record s.fls { flash = armed nth keep s.fls.flash } }

-- a job opens, with room for its content
abbrev pub opened : EaJob → List ℕ → Parts → Parts
opened j content s = record s { content = content; job = Some j; given = 0 }

-- it is canceled
abbrev pub canceled : Parts → Parts
canceled s = record s { job = None; last = JobCanceled; given = 0 }
