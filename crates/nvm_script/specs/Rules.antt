-- Which steps a script may have.
use Rattle.std.specs.Prelude.{◌≡◌, ◌≤◌, ℕ, ◌==◌, Bool, false, nat_le, List, length, IsSome, Option, Some, None, option_and_then, option_map, if◌then◌else◌}
use Rattle.nv_base.specs.declared.request.Request.TheVariants.{PutRam}
use Rattle.block_config.specs.Config.{Configuration, block_of}
use Rattle.block_config.specs.declared.block.RamKind.{RamKind}
use Rattle.block_config.specs.declared.block.RamKind.TheVariants as ram
use Rattle.nvm_script.specs.declared.step.StepKind.{StepKind}
use Rattle.nvm_script.specs.declared.step.StepKind.TheVariants.{Ask, Store, CutSecond, Refuse, Await}
use Rattle.nvm_script.specs.declared.script.Mode.{Mode}
use Rattle.nvm_script.specs.declared.script.Mode.TheVariants.{Play, Run}

abbrev pub length_where_sync : RamKind → ℕ → Option ℕ
length_where_sync ram.Sync n = Some n
length_where_sync _ n = None

-- the length of a block whose RAM is synchronized
abbrev pub sync_length_of : Configuration → ℕ → Option ℕ
sync_length_of c id = option_and_then (λ b. length_where_sync b.ram b.length) (block_of c id)

-- a step that one player makes, who names no caller
abbrev pub IsPlayed : Mode → Bool → Type 0
IsPlayed mode called = (mode ≡ Play) × (called ≡ false)

-- a script in this mode may have the step, by a caller that was named or not
abbrev pub Allows : Configuration → Mode → Bool → StepKind → Type 0
Allows c mode called (Ask (PutRam block content)) = sync_length_of c block ≡ None
Allows c mode called (Ask request) = Unit {0}
Allows c mode called (Store block content) = sync_length_of c block ≡ Some (length content)
Allows c mode called (CutSecond nth keep) = IsPlayed mode called × IsSome c.eeprom
Allows c mode called (Refuse block count) = IsPlayed mode called × IsSome (sync_length_of c block)
Allows c mode called (Await block) = (mode ≡ Run) × (block ≤ length c.blocks)
Allows c mode called _ = IsPlayed mode called

-- a content for a block's RAM: a store where the block is synchronized, else a request
abbrev pub settled_put : ℕ → List ℕ → Option ℕ → Option StepKind
settled_put block content None = Some (Ask (PutRam block content))
settled_put block content (Some n) = if length content == n then Some (Store block content) else None

abbrev pub where_played : Mode → Bool → Option StepKind → Option StepKind
where_played Play false kind = kind
where_played _ _ kind = None

abbrev pub where_run : Mode → Option StepKind → Option StepKind
where_run Run kind = kind
where_run Play kind = None

-- the step that was spelled, where the script may have it
abbrev pub settled : Configuration → Mode → Bool → StepKind → Option StepKind
settled c mode called (Ask (PutRam block content)) = settled_put block content (sync_length_of c block)
settled c mode called (Ask request) = Some (Ask request)
settled c mode called (Store block content) = None
settled c mode called (CutSecond nth keep) = where_played mode called (option_map (λ _. CutSecond nth keep) c.eeprom)
settled c mode called (Refuse block count) = where_played mode called (option_map (λ _. Refuse block count) (sync_length_of c block))
settled c mode called (Await block) = where_run mode (if nat_le block (length c.blocks) then Some (Await block) else None)
settled c mode called kind = where_played mode called (Some kind)
