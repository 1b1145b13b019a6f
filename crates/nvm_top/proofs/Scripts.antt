-- The steps of a script are those that its mode makes.
use Rattle.std.proofs.Common.{ℕ, List, []}
use Rattle.nvm_flash.specs.block_config.Config.{Configuration}
use Rattle.nvm_script.specs.Script.{IsScript}
use Rattle.nvm_script.specs.declared.script.Mode.{Mode}
use Rattle.nvm_script.specs.declared.script.Mode.TheVariants as mode
use Rattle.nvm_script.specs.declared.step.Step.{Step}
use Rattle.nvm_script.proofs.PlayedScripts.{scripts_are_played}
use Rattle.nvm_callers.proofs.RunScripts.{scripts_are_run}
use Rattle.nvm_top.specs.Reading.{AreMadeIn}

pub scripts_are_made : (m : Mode) (c : Configuration) (n : ℕ) (lines : List (List ℕ)) (steps : List Step) → IsScript c m n [] lines steps → AreMadeIn m c steps
scripts_are_made mode.Play c n lines steps is = scripts_are_played c n lines steps is
scripts_are_made mode.Run c n lines steps is = scripts_are_run c n lines steps is
