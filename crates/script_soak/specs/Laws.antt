-- What drawn steps have in common.
use Rattle.std.specs.Prelude.{ℕ}
use Rattle.block_config.specs.Config.{Configuration}
use Rattle.nvm_script.specs.Played.{ArePlayed}
use Rattle.script_soak.specs.Soak.{soak}

-- each of them can be played
abbrev pub SoakIsPlayed : Type 0
SoakIsPlayed = (c : Configuration) (seed count : ℕ) → ArePlayed c (soak c seed count)
