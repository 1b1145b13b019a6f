-- How `soak` ends.
use Rattle.std.specs.Prelude.{◌≡◌, ◌⊎◌, ℕ, Bool, true, false, List, [], ◌∷◌, Option, Some}
use Rattle.nvm_flash.specs.block_config.Config.{Configuration}
use Rattle.nvm_flash.specs.fls_model.Told.{ToldBytes}
use Rattle.nvm_words.specs.declared.words.CommandKind.{CommandKind}
use Rattle.nvm_words.specs.declared.words.CommandKind.TheVariants.{Soak}
use Rattle.nvm_script.specs.declared.script.Mode.TheVariants as mode
use Rattle.nvm_script.specs.declared.step.Step.{Step}
use Rattle.nvm_top.specs.Ends.{HasScript, HasWrongLine}
use Rattle.nvm_top.specs.Play.{StopsBy}
use Rattle.nvm_top.specs.Reading.{IsReadStop}
use Rattle.nvm_lines.specs.declared.status.Status.{Status}
use Rattle.nvm_lines.specs.declared.stop.Stop.{Stop}

-- THE WORDS

abbrev pub is_soak : Option CommandKind → Bool
is_soak (Some (Soak seed count)) = true
is_soak _ = false

-- THE INPUT

-- of its later lines this is the first that is wrong; or none is, and this is the first that is a step
abbrev pub HasStepAt : List ℕ → ℕ → Type 0
HasStepAt bytes number = HasWrongLine mode.Play bytes number ⊎ ((c : Configuration) × (x : Step) × (xs : List Step) × HasScript mode.Play bytes c (x ∷ xs) × (x.line ≡ number))

-- why it stops before its flash is attached, with the bytes of its input, where they are told
abbrev pub IsSoakStop : Option (List ℕ) → Stop → Type 0
IsSoakStop = IsReadStop HasStepAt

-- THE OUTPUT

-- why it begins no run
abbrev pub SoakStopsBy : (left : Option (List ℕ)) (reads reads' : ℕ) → Option ToldBytes → Status → List (List ℕ) → Type 0
SoakStopsBy = StopsBy HasStepAt (λ c bytes. HasScript mode.Play bytes c [])
