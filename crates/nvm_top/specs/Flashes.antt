-- What a stack is made over: one flash, or two.
use Rattle.std.specs.Prelude.{◌≡◌, ℕ, List, Option, None, OnOk, IfErr, Result}
use Rattle.nvm_flash.specs.block_config.Config.{Configuration}
use Rattle.nvm_flash.specs.memif.Told.{Part, First, PartTold, DeviceTold}
use Rattle.nvm_flash.specs.memif.Clock.{Clock}
use Rattle.nvm_flash.specs.fls_model.Told.{Told}
use Rattle.nvm_flash.specs.nvm_core.Stack.{StackState}
use Rattle.nvm_flash.specs.ram_blocks.declared.plain_block.PlainBlock.{PlainBlock}
use Rattle.script_player.specs.PlainTold.{told_by}
use Rattle.script_player.specs.PlainPaying.{seen_by}
use Rattle.script_player.specs.Made.{HasWalked, WasBroken}
use Rattle.script_player.specs.declared.steps.StepFault.{StepFault}
use Rattle.script_player.specs.Requests.{HasServed}
use Rattle.script_player.specs.uds_gateway.declared.stop.ServeStop.{ServeStop}
use Rattle.script_player.specs.script_walks.Words.{Step}
use Rattle.nvm_callers.specs.nvm_moves.Beginning.{BeginsMoves}
use Rattle.nvm_top.specs.Stack.{IsStarted, KeepsPlayed}

-- what is told of it: of its flash, and of a second one beside that, if there is one
pub record FlashesTold : Type 0 where
  pub flash : Told
  pub beside : Option Told

abbrev pub one_flash : Told → FlashesTold
one_flash t = record { flash = t; beside = None }

-- STEPS ON A STACK OVER IT
-- How steps were made on the stack of a configuration, from behind its first start-up on, and how they ended, by what its device
-- tells; and all is kept and paid, as far as the device tells what it holds.
pub record WereMade {D : Type 0} (device : D → DeviceTold) (clock : D → Clock)
    (before : Part → PartTold) (c : Configuration) (cuts : ℕ) (steps : List Step) (end : Result (Unit {0}) StepFault)
    (s : StackState D (List PlainBlock)) : Type 0 where
  pub first : StackState D (List PlainBlock)
  pub started : IsStarted c cuts (before First) (told_by device first)
  pub all : OnOk end (HasWalked (seen_by device clock first) (seen_by device clock s) steps (told_by device first) (told_by device s))
  pub some : IfErr end (λ why. WasBroken (seen_by device clock first) (seen_by device clock s) why steps (told_by device first) (told_by device s))
  pub configuration : (told_by device s).configuration ≡ (told_by device first).configuration
  pub most : (told_by device s).cap ≡ (told_by device first).cap
  pub keeps : KeepsPlayed s.ready before s.desk s.hand (device s.device) (clock s.device)
  pub begins : BeginsMoves (seen_by device clock first)

-- REQUESTS ON A STACK OVER IT
-- how they were served, so
pub record WereServed {D : Type 0} (device : D → DeviceTold) (clock : D → Clock)
    (before : Part → PartTold) (c : Configuration) (requests : List (List ℕ)) (counts : List ℕ) (end : Result (Unit {0}) ServeStop)
    (s : StackState D (List PlainBlock)) : Type 0 where
  pub first : StackState D (List PlainBlock)
  pub started : IsStarted c 0 (before First) (told_by device first)
  pub served : HasServed (seen_by device clock first) (seen_by device clock s) requests counts end (told_by device first) (told_by device s)
  pub configuration : (told_by device s).configuration ≡ (told_by device first).configuration
  pub most : (told_by device s).cap ≡ (told_by device first).cap
  pub keeps : KeepsPlayed s.ready before s.desk s.hand (device s.device) (clock s.device)
  pub begins : BeginsMoves (seen_by device clock first)
