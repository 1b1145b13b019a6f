-- How `run` ends.
use Rattle.std.specs.Prelude.{Result, Ok, Err}
use Rattle.nvm_callers.specs.declared.ending.Ending.{Ending}
use Rattle.nvm_callers.specs.declared.ending.Ending.TheVariants as ending
use Rattle.nvm_lines.specs.declared.stop.Stop.{Stop}
use Rattle.nvm_lines.specs.declared.stop.Stop.TheVariants as stop

-- the command stops where a caller's request had no room, or memory was wanting
abbrev pub stop_of_ending : Ending → Result (Unit {0}) Stop
stop_of_ending ending.All = Ok tt
stop_of_ending ending.NoRoom = Err stop.HistoryFull
stop_of_ending ending.Memory = Err stop.Memory
