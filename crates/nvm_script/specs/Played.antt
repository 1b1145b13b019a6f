-- The steps that one player can make.
use Rattle.std.specs.Prelude.{◌≡◌, ◌≤◌, length, IsSome, Some, List, All}
use Rattle.nv_base.specs.declared.request.Request.TheVariants.{Write}
use Rattle.block_config.specs.Config.{Configuration}
use Rattle.nvm_script.specs.declared.step.Step.{Step}
use Rattle.nvm_script.specs.declared.step.StepKind.{StepKind}
use Rattle.nvm_script.specs.declared.step.StepKind.TheVariants.{Ask, Store, Turn, CutSecond, Refuse, Await}
use Rattle.nvm_script.specs.Rules.{sync_length_of}

-- A write gets the number of its store where it is asked, a store and refused copies are of a synchronized block, turns
-- are one or more, the second device's flash is cut where there is one, and nobody waits beside the player.
abbrev pub CanBePlayed : Configuration → StepKind → Type 0
CanBePlayed c (Ask (Write block content store)) = store ≡ 0
CanBePlayed c (Ask request) = Unit {0}
CanBePlayed c (Store block content) = sync_length_of c block ≡ Some (length content)
CanBePlayed c (Turn count) = 1 ≤ count
CanBePlayed c (CutSecond nth keep) = IsSome c.eeprom
CanBePlayed c (Refuse block count) = IsSome (sync_length_of c block)
CanBePlayed c (Await block) = ⊥
CanBePlayed c kind = Unit {0}

-- of a caller from 0 to 15
pub record IsPlayed (c : Configuration) (x : Step) : Type 0 where
  pub caller : x.caller ≤ 15
  pub kind : CanBePlayed c x.kind

-- each of these steps
abbrev pub ArePlayed : Configuration → List Step → Type 0
ArePlayed c steps = All (IsPlayed c) steps
