use Rattle.std.proofs.Common.{[], ◌∷◌}
-- The device over slots is made for its one number on the small flash, over this flash.
use Rattle.device_tests.proofs.both.try_over.Given as goal

abbrev pub ghosts-try_made : goal.ghosts-try_made
ghosts-try_made g a = record { making = record { geometry = record { page = 16; sector = 64; sectors = 4 }; numbers = (record { 0 = 128 }, 4) ∷ [] }; entry = g.F.Flash.told a.flash }
