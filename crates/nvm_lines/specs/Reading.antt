-- Why an input isn't read, or is no configuration.
use Rattle.std.specs.Prelude.{◌≡◌, ◌≤◌, ℕ, List, length, Option, IfSome, Ok, Err}
use Rattle.nv_base.specs.Count.{Rose}
use Rattle.block_config.specs.Config.{Configuration}
use Rattle.block_config.specs.Reading.{meaning_of}
use Rattle.block_config.specs.declared.fault.ConfigFault.TheVariants.{Broken}
use Rattle.nvm_script.specs.Script.{first_line}
use Rattle.nvm_lines.specs.Input.{IsLonger, input_limit}
use Rattle.nvm_lines.specs.declared.stop.Stop.{Stop}
use Rattle.nvm_lines.specs.declared.stop.Stop.TheVariants.{BadConfig, ReadFault, TooLong, Memory}

-- the input isn't too long, and its first line is this configuration
pub record HasConfig (bytes : List ℕ) (c : Configuration) : Type 0 where
  pub short : length bytes ≤ input_limit
  pub config : meaning_of (first_line bytes) ≡ Ok c

-- the input isn't too long, and this is the first rule that its first line breaks, with the first block that breaks it
pub record BreaksRule (bytes : List ℕ) (rule block : ℕ) : Type 0 where
  pub short : length bytes ≤ input_limit
  pub broken : meaning_of (first_line bytes) ≡ Err (Broken rule block)

-- why the input isn't read to its end, with its bytes and with its faults before and after
abbrev pub IsInputStop : Option (List ℕ) → ℕ → ℕ → Stop → Type 0
IsInputStop left before after ReadFault = Rose before after
IsInputStop left before after TooLong = IsLonger left input_limit
IsInputStop left before after Memory = Unit {0}
IsInputStop left before after _ = ⊥

-- why the first line is no configuration: the first broken rule with its block
abbrev pub IsConfigStop : List ℕ → Stop → Type 0
IsConfigStop line (BadConfig rule block) = meaning_of line ≡ Err (Broken rule block)
IsConfigStop line Memory = Unit {0}
IsConfigStop line _ = ⊥

-- why an input has no configuration, with its bytes, where they are told
abbrev pub IsCheckStop : Option (List ℕ) → Stop → Type 0
IsCheckStop left (BadConfig rule block) = IfSome left (λ bytes. BreaksRule bytes rule block)
IsCheckStop left ReadFault = Unit {0}
IsCheckStop left TooLong = IsLonger left input_limit
IsCheckStop left Memory = Unit {0}
IsCheckStop left _ = ⊥
