use Rattle.std.proofs.Common.{[], ◌∷◌}
-- Each device is made for its numbers on its flash.
use Rattle.pair_tests.proofs.both.holds_on.Given as goal

abbrev pub ghosts-made_holds-O-Origin : goal.ghosts-made_holds-O-Origin
ghosts-made_holds-O-Origin g a = record {
  making = record { geometry = record { page = 16; sector = 256; sectors = 8 }; banks = 2; numbers = (record { 0 = 64 }, 2) ∷ (record { 0 = 65 }, 2) ∷ (record { 0 = 192 }, 20) ∷ []; reserve = 5 };
  entry = g.F.Flash.told a.flash;
}

abbrev pub ghosts-made_holds-P-Origin : goal.ghosts-made_holds-P-Origin
ghosts-made_holds-P-Origin g a = record {
  making = record { geometry = record { page = 16; sector = 64; sectors = 4 }; numbers = (record { 0 = 128 }, 4) ∷ [] };
  entry = g.F.Flash.told a.eeprom;
}
