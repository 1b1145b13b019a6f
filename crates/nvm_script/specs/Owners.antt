-- Who stores into synchronized RAM.
use Rattle.std.specs.Prelude.{ℕ, ◌==◌, Bool, true, false, not, ◌||◌, List, [], ◌∷◌, slice_get, slice_set, Option, Some, None, option_and_then, is_some, if◌then◌else◌}
use Rattle.std.specs.Option.{option_map_or}
use Rattle.nv_base.specs.declared.request.Request.TheVariants.{Write}
use Rattle.block_config.specs.Config.{Configuration}
use Rattle.nvm_script.specs.declared.step.Step.{Step}
use Rattle.nvm_script.specs.declared.step.StepKind.{StepKind}
use Rattle.nvm_script.specs.declared.step.StepKind.TheVariants.{Ask, Store}
use Rattle.nvm_script.specs.declared.script.Mode.{Mode}
use Rattle.nvm_script.specs.declared.script.Mode.TheVariants.{Play, Run}
use Rattle.nvm_script.specs.Rules.{sync_length_of}

-- the block whose RAM a step stores into or writes
abbrev pub ram_block_of : StepKind → Option ℕ
ram_block_of (Store block content) = Some block
ram_block_of (Ask (Write block None store)) = Some block
ram_block_of _ = None

-- the owner of a block's RAM: the caller of the first step that stores into it or writes it
abbrev pub owner_of : List Step → ℕ → Option ℕ
owner_of [] block = None
owner_of (s ∷ steps) block = if option_map_or (λ b. b == block) (ram_block_of s.kind) false then Some s.caller else owner_of steps block

-- the caller may own the RAM of this block, where it is synchronized: it has no owner, or this one
abbrev pub may_own : Configuration → (ℕ → Option ℕ) → ℕ → ℕ → Bool
may_own c owner caller block = not (is_some (sync_length_of c block)) || option_map_or (λ o. o == caller) (owner block) true

-- in a run the RAM of a synchronized block has one owner
abbrev pub keeps_owner : Configuration → Mode → (ℕ → Option ℕ) → ℕ → StepKind → Bool
keeps_owner c Play owner caller kind = true
keeps_owner c Run owner caller kind = option_map_or (may_own c owner caller) (ram_block_of kind) true

-- the owner in a table by blocks
abbrev pub owner_in : List (Option ℕ) → ℕ → Option ℕ
owner_in table block = option_and_then (λ o. o) (slice_get table block)

abbrev pub noted_where : List (Option ℕ) → ℕ → ℕ → Option (Option ℕ) → List (Option ℕ)
noted_where table caller block (Some None) = slice_set table block (Some caller)
noted_where table caller block _ = table

abbrev pub noted_at : List (Option ℕ) → ℕ → Option ℕ → List (Option ℕ)
noted_at table caller None = table
noted_at table caller (Some block) = noted_where table caller block (slice_get table block)

-- the table after a step
abbrev pub noted : List (Option ℕ) → ℕ → StepKind → List (Option ℕ)
noted table caller kind = noted_at table caller (ram_block_of kind)
