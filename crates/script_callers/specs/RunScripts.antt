-- The steps that callers beside each other can make.
use Rattle.std.specs.Prelude.{◌≡◌, ◌≤◌, ℕ, true, List, length, slice_get, All, is_some, Some}
use Rattle.nv_base.specs.declared.request.Request.TheVariants.{Write}
use Rattle.nvm_script.specs.Owners.{ram_block_of, owner_of}
use Rattle.nvm_script.specs.Rules.{sync_length_of}
use Rattle.script_walks.specs.Words.{Step, StepKind, AskStep, Store, Await}
use Rattle.block_machine.specs.Words.{Configuration}

-- A write gets the number of its store where it is asked, a store is of a synchronized block, and a wait of one that is there.
-- Turns, start-ups, cuts and refused copies are for one player.
abbrev pub CanBeRun : Configuration → StepKind → Type 0
CanBeRun c (AskStep (Write block content store)) = store ≡ 0
CanBeRun c (AskStep request) = Unit {0}
CanBeRun c (Store block content) = sync_length_of c block ≡ Some (length content)
CanBeRun c (Await block) = block ≤ length c.blocks
CanBeRun c kind = ⊥

-- of a caller from 0 to 15
pub record IsRunBy (c : Configuration) (x : Step) : Type 0 where
  pub caller : x.caller ≤ 15
  pub kind : CanBeRun c x.kind

-- who stores into the RAM of a synchronized block or writes it is the block's owner
abbrev pub HasOneOwner : Configuration → List Step → Type 0
HasOneOwner c steps =
    (place block : ℕ) (x : Step) → slice_get steps place ≡ Some x → is_some (sync_length_of c block) ≡ true → ram_block_of x.kind ≡ Some block
    → owner_of steps block ≡ Some x.caller

-- each of these steps
pub record AreRun (c : Configuration) (steps : List Step) : Type 0 where
  pub each : All (IsRunBy c) steps
  pub owners : HasOneOwner c steps
