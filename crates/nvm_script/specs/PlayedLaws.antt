-- What is read can be played.
use Rattle.std.specs.Prelude.{ℕ, List, []}
use Rattle.block_config.specs.Config.{Configuration}
use Rattle.nvm_script.specs.declared.step.Step.{Step}
use Rattle.nvm_script.specs.declared.script.Mode.TheVariants.{Play}
use Rattle.nvm_script.specs.Script.{IsScript}
use Rattle.nvm_script.specs.Played.{ArePlayed}

-- the steps of a script of `play`
abbrev pub ScriptsArePlayed : Type 0
ScriptsArePlayed = (c : Configuration) (n : ℕ) (lines : List (List ℕ)) (steps : List Step) → IsScript c Play n [] lines steps → ArePlayed c steps
