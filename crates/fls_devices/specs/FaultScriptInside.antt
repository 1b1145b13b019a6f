-- The fields of a script of faults.
use Rattle.std.specs.Prelude.{◌≤◌, length}
use Rattle.fls_devices.specs.FaultScript.{Scripted}

-- each operation that is still to fail has room in the journal
pub record IsScripted (s : Scripted) : Type 0 where
  pub room : length s.changing ≤ s.flash.journal.room
