-- How a command ends, as its input decides. No two cases of a command hold of one input, but those of the faults and
-- of the want of memory, which may come in place of any other.
use Rattle.std.specs.Prelude.{◌≡◌, ℕ, List, [], ◌∷◌, Option, IfSome}
use Rattle.nvm_flash.specs.nv_base.Count.{Rose}
use Rattle.nvm_flash.specs.block_config.Config.{Configuration}
use Rattle.nvm_script.specs.Script.{IsScript, IsFirstWrong, later_lines}
use Rattle.nvm_script.specs.declared.step.Step.{Step}
use Rattle.nvm_script.specs.declared.script.Mode.{Mode}
use Rattle.nvm_lines.specs.Reading.{HasConfig, BreaksRule}
use Rattle.nvm_lines.specs.Input.{IsLonger, input_limit}
use Rattle.nvm_lines.specs.declared.status.Status.{Status}
use Rattle.nvm_lines.specs.declared.status.Status.TheVariants as status
use Rattle.nvm_lines.specs.declared.stop.Stop.TheVariants as stop
use Rattle.nvm_top.specs.Measures.{measures_line}
use Rattle.nvm_lines.specs.Stop.{line_of}

-- the input has this configuration, and its later lines are these steps of this mode
pub record HasScript (m : Mode) (bytes : List ℕ) (c : Configuration) (steps : List Step) : Type 0 where
  pub config : HasConfig bytes c
  pub script : IsScript c m 2 [] (later_lines bytes) steps

-- and of its later lines this is the first that is wrong
abbrev pub HasWrongLine : Mode → List ℕ → ℕ → Type 0
HasWrongLine m bytes number = (c : Configuration) × HasConfig bytes c × IsFirstWrong c m 2 [] (later_lines bytes) number

-- why the input isn't read, with its line: the first broken rule with its first block, a read that failed, or too many bytes
abbrev pub ReadsBy : Option (List ℕ) → (reads reads' : ℕ) → Status → List (List ℕ) → Type 0
ReadsBy left reads reads' status.BadConfig lines = (rule : ℕ) × (block : ℕ) × IfSome left (λ bytes. BreaksRule bytes rule block) × (lines ≡ line_of (stop.BadConfig rule block) ∷ [])
ReadsBy left reads reads' status.ReadFault lines = Rose reads reads' × (lines ≡ line_of stop.ReadFault ∷ [])
ReadsBy left reads reads' status.TooLong lines = IsLonger left input_limit × (lines ≡ line_of stop.TooLong ∷ [])
ReadsBy left reads reads' _ lines = ⊥

-- how `check` ends, with the line that it writes
abbrev pub ChecksBy : Option (List ℕ) → (reads reads' : ℕ) → Status → List (List ℕ) → Type 0
ChecksBy left reads reads' status.Ok lines = (c : Configuration) × IfSome left (λ bytes. HasConfig bytes c) × (lines ≡ measures_line c ∷ [])
ChecksBy left reads reads' x lines = ReadsBy left reads reads' x lines
