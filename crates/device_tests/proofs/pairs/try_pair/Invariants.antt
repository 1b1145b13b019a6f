use Rattle.std.proofs.Common.{[], ◌∷◌}
-- Each device is made for its numbers on its small flash.
use Rattle.device_tests.proofs.pairs.try_pair.Given as goal

abbrev pub ghosts-try_made-O-Origin : goal.ghosts-try_made-O-Origin
ghosts-try_made-O-Origin g a = record {
  making = record { geometry = record { page = 16; sector = 64; sectors = 10 }; banks = 2; numbers = (record { 0 = 64 }, 4) ∷ (record { 0 = 192 }, 4) ∷ []; reserve = 0 };
  entry = g.F.Flash.told a.flash;
}

abbrev pub ghosts-try_made-P-Origin : goal.ghosts-try_made-P-Origin
ghosts-try_made-P-Origin g a = record {
  making = record { geometry = record { page = 16; sector = 64; sectors = 8 }; numbers = (record { 0 = 128 }, 4) ∷ (record { 0 = 256 }, 4) ∷ [] };
  entry = g.G.Flash.told a.eeprom;
}
