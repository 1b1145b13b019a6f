-- What is kept of a number.
use Rattle.std.specs.Prelude.{None}
use Rattle.ea_image.specs.Memory.{no_memory}
use Rattle.ea_told.specs.declared.state.SlotState.{SlotState}

-- it was never written
abbrev pub no_state : SlotState
no_state = record { memory = no_memory; worn = None }
