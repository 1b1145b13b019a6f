-- The steps of a script, and its first wrong line.
use Rattle.std.specs.Prelude.{◌≡◌, ◌⊎◌, ℕ, ◌+◌, ◌==◌, true, List, [], ◌∷◌, ◌++◌, map, drop, slice_get, unwrap_or}
use Rattle.std.specs.List.{slice_split}
use Rattle.block_config.specs.Config.{Configuration}
use Rattle.nvm_script.specs.declared.step.Step.{Step}
use Rattle.nvm_script.specs.declared.step.StepKind.{StepKind}
use Rattle.nvm_script.specs.declared.script.Mode.{Mode}
use Rattle.nvm_script.specs.Line.{without_return, IsIdle, IsStepLine}
use Rattle.nvm_script.specs.Owners.{owner_of, keeps_owner}

-- the lines of an input, cut at newlines. Behind the last newline stands a line too, which does nothing if it is empty.
abbrev pub lines_of : List ℕ → List (List ℕ)
lines_of input = map without_return (slice_split (λ b. b == 10) input)

-- the configuration's line
abbrev pub first_line : List ℕ → List ℕ
first_line input = unwrap_or (slice_get (lines_of input) 0) []

-- line n, behind these steps, does nothing, or adds its step
abbrev pub Follows : Configuration → Mode → ℕ → List ℕ → List Step → List Step → Type 0
Follows c mode n line before after =
    (IsIdle line × (after ≡ before))
    ⊎ ((caller : ℕ) × (kind : StepKind) × IsStepLine c mode line caller kind × (keeps_owner c mode (owner_of before) caller kind ≡ true)
    × (after ≡ before ++ record { line = n; caller = caller; kind = kind } ∷ []))

-- line n is wrong behind these steps
abbrev pub IsWrong : Configuration → Mode → ℕ → List ℕ → List Step → Type 0
IsWrong c mode n line before = (after : List Step) → Follows c mode n line before after → ⊥

-- the lines from number n on lead from the steps before them to these
abbrev pub IsScript : Configuration → Mode → ℕ → List Step → List (List ℕ) → List Step → Type 0
IsScript c mode n before [] steps = steps ≡ before
IsScript c mode n before (line ∷ lines) steps = (after : List Step) × Follows c mode n line before after × IsScript c mode (n + 1) after lines steps

-- of the lines from number n on, line k is the first wrong one
abbrev pub IsFirstWrong : Configuration → Mode → ℕ → List Step → List (List ℕ) → ℕ → Type 0
IsFirstWrong c mode n before [] k = ⊥
IsFirstWrong c mode n before (line ∷ lines) k =
    ((k ≡ n) × IsWrong c mode n line before) ⊎ ((after : List Step) × Follows c mode n line before after × IsFirstWrong c mode (n + 1) after lines k)

-- the lines behind the configuration's
abbrev pub later_lines : List ℕ → List (List ℕ)
later_lines input = drop 1 (lines_of input)
