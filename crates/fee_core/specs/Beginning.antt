-- What the turn of a job that waits begins with.
use Rattle.std.specs.Prelude.{ℕ, Bool, Option, Some, None}
use Rattle.fee_course.specs.declared.course.Course.{Course}
use Rattle.fee_laws.specs.fee_switch.Banks.{BanksState}
use Rattle.fee_laws.specs.declared.job.FeeJob.{FeeJob}
use Rattle.fee_laws.specs.Work.{begins_next, fits_in}

-- its record begins: with no switch open where it has room, and else where it is an urgent one that may
abbrev pub begins_beside : Option Course → ℕ → BanksState → FeeJob → Bool
begins_beside None reserve s j = fits_in reserve s j
begins_beside (Some c) reserve s j = begins_next s j

abbrev pub begins_now : ℕ → BanksState → FeeJob → Bool
begins_now reserve s j = begins_beside s.course reserve s j
