-- How a script is read, line by line.
use Rattle.std.specs.Prelude.{◌≡◌, ◌≤◌, ℕ, ◌+◌, Bool, true, false, List, [], length, Option}
use Rattle.block_config.specs.Config.{Configuration}
use Rattle.nvm_script.specs.declared.step.Step.{Step}
use Rattle.nvm_script.specs.declared.script.Mode.{Mode}
use Rattle.nvm_script.specs.declared.script.ScriptFault.{ScriptFault}
use Rattle.nvm_script.specs.declared.script.ScriptFault.TheVariants as fault
use Rattle.nvm_script.specs.Owners.{owner_in, owner_of}
use Rattle.nvm_script.specs.Script.{Follows, IsWrong, IsFirstWrong}

-- the table has the owner of each block
pub record Owns (c : Configuration) (table : List (Option ℕ)) (steps : List Step) : Type 0 where
  pub size : length table ≡ length c.blocks + 1
  pub owners : (block : ℕ) → block ≤ length c.blocks → owner_in table block ≡ owner_of steps block

-- line n was added, or it is wrong
abbrev pub AddsLine : Configuration → Mode → ℕ → List ℕ → List Step → List Step → Bool → Type 0
AddsLine c mode n line before after true = Follows c mode n line before after
AddsLine c mode n line before after false = IsWrong c mode n line before

-- a fault that names a line names the first wrong one
abbrev pub NamesFirstWrong : Configuration → Mode → List (List ℕ) → ScriptFault → Type 0
NamesFirstWrong c mode lines (fault.Line number) = IsFirstWrong c mode 2 [] lines number
NamesFirstWrong c mode lines fault.Memory = Unit {0}
