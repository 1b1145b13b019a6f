-- A script has one reading.
use Rattle.std.specs.Prelude.{◌≡◌, ℕ, List, []}
use Rattle.block_config.specs.Config.{Configuration}
use Rattle.nvm_script.specs.declared.step.Step.{Step}
use Rattle.nvm_script.specs.declared.script.Mode.{Mode}
use Rattle.nvm_script.specs.Script.{IsScript, IsFirstWrong}

-- lines lead to one list of steps
abbrev pub LeadToOne : Type 0
LeadToOne = (c : Configuration) (mode : Mode) (lines : List (List ℕ)) (a b : List Step) → IsScript c mode 2 [] lines a → IsScript c mode 2 [] lines b → a ≡ b

-- one line is the first wrong one
abbrev pub BreakAtOne : Type 0
BreakAtOne = (c : Configuration) (mode : Mode) (lines : List (List ℕ)) (j k : ℕ) → IsFirstWrong c mode 2 [] lines j → IsFirstWrong c mode 2 [] lines k → j ≡ k

-- lines that lead to steps have no wrong line
abbrev pub DoOneOfBoth : Type 0
DoOneOfBoth = (c : Configuration) (mode : Mode) (lines : List (List ℕ)) (steps : List Step) (k : ℕ) → IsScript c mode 2 [] lines steps → IsFirstWrong c mode 2 [] lines k → ⊥
