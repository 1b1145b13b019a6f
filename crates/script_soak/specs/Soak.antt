-- The script of a soak run.
use Rattle.std.specs.Prelude.{ℕ, zero, suc, ◌+◌, List, [], ◌∷◌, ◌++◌, map}
use Rattle.std.specs.List.{range_with_len}
use Rattle.block_config.specs.Config.{Configuration}
use Rattle.nvm_script.specs.declared.step.Step.{Step}
use Rattle.nvm_script.specs.declared.step.StepKind.{StepKind}
use Rattle.nvm_script.specs.declared.step.StepKind.TheVariants.{Drain}
use Rattle.script_soak.specs.Rounds.{step_of_round}

-- the step at a place from 0, whose line is its place from 1, of caller 0
abbrev pub step_at : ℕ → StepKind → Step
step_at place kind = record { line = place + 1; caller = 0; kind = kind }

-- one step for each of so many rounds
abbrev pub rounds : Configuration → ℕ → ℕ → List Step
rounds c seed count = map (λ r. step_at r (step_of_round c seed r)) (range_with_len 0 count)

-- behind the rounds, if there are any, all that is pending is done
abbrev pub ending : ℕ → List Step
ending zero = []
ending (suc n) = step_at (suc n) Drain ∷ []

-- the steps that a seed draws for so many rounds
abbrev pub soak : Configuration → ℕ → ℕ → List Step
soak c seed count = rounds c seed count ++ ending count
