-- The clock that a device tells.
use Rattle.std.specs.Prelude.{◌<◌}
use Rattle.nv_base.specs.Count.{last_count}
use Rattle.memif.specs.Clock.{Clock}
use Rattle.fee_laws.specs.fls_told.Clock.{off_in_of}
use Rattle.fee_laws.specs.fee_told.Device.{Device, flash_device, clock_of}

-- That of the operations of its flash. An operation past the end of the count tells no moment: of none there it says that the
-- power went off in it.
abbrev pub told_clock : Device → Clock
told_clock d = record (clock_of d) { off_in = λ k. (k < last_count) × off_in_of (flash_device d) k }
