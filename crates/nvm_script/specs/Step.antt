-- The step that a text is.
use Rattle.std.specs.Prelude.{Bool, List, ℕ}
use Rattle.block_config.specs.Config.{Configuration}
use Rattle.nvm_script.specs.declared.step.StepKind.{StepKind}
use Rattle.nvm_script.specs.declared.script.Mode.{Mode}
use Rattle.nvm_script.specs.Rules.{Allows}
use Rattle.nvm_script.specs.Spelling.{Spells}

-- the text spells the step, and a script in this mode may have it
abbrev pub IsStep : Configuration → Mode → Bool → List ℕ → StepKind → Type 0
IsStep c mode called text kind = Spells kind text × Allows c mode called kind
