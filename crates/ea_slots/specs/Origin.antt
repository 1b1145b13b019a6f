-- What a device is made of where nobody picks it.
use Rattle.std.specs.Prelude.{false, [], None}
use Rattle.nv_base.specs.Plan.{no_planning}
use Rattle.fls_model.specs.Told.{Told}
use Rattle.ea_told.specs.Making.{Making}

abbrev pub no_making : Making
no_making = record { geometry = record { page = 0; sector = 0; sectors = 0 }; numbers = [] }

abbrev pub no_flash : Told
no_flash = record { geometry = record { page = 0; sector = 0; sectors = 0 }; bytes = None; ops = 0; faults = 0; cuts = 0; off = false; planning = no_planning }
