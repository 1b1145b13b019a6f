-- A stack that is shared for a run of callers.
use Rattle.std.specs.Prelude.{◌≡◌, ◌≤◌, ◌<◌, ◌^◌, false, List, length}
use Rattle.driver_moves.specs.memif.Told.{DeviceTold}
use Rattle.driver_moves.specs.block_machine.Words.{Configuration}
use Rattle.driver_moves.specs.ram_blocks.declared.plain_block.PlainBlock.{PlainBlock}
use Rattle.driver_moves.specs.nv_desk.Desk.{state_of}
use Rattle.driver_moves.specs.nvm_laws.Ties.{IsTied}
use Rattle.driver_moves.specs.nvm_laws.DueLaws.{NextIsPending}
use Rattle.turn_gate.specs.Pass.{beginner, knows}
use Rattle.driver_moves.specs.nvm_shared.Behind.{HandIsPending}
use Rattle.driver_moves.specs.nvm_shared.Locked.{desk_with}
use Rattle.driver_moves.specs.nvm_shared.Opening.{IsFirst}
use Rattle.driver_moves.specs.nvm_shared.Passes.{PassValue, SharedState, IsUserOf}
use Rattle.driver_moves.specs.nvm_shared.Driving.{DriverState}
use Rattle.driver_moves.specs.nvm_moves.script_walks.Words.{Step}
use Rattle.script_callers.specs.declared.program.Program.{Program}
use Rattle.script_callers.specs.Programs.{programs_of}
use Rattle.script_callers.specs.RunScripts.{AreRun}

-- these programs are those of the callers of a script, whose stores can be counted
pub record AreProgramsOf (c : Configuration) (steps : List Step) (programs : List Program) : Type 0 where
  pub run : AreRun c steps
  pub few : length steps < 2 ^ 60
  pub are : programs ≡ programs_of c steps

-- The first pass of a stack of this configuration behind its one start-up, with its driver's parts. That the device tells what it
-- holds is left open, since it may stop to tell.
pub record IsBegun {D : Type 0} (told : D → DeviceTold) (c : Configuration) (shared : SharedState) (p : PassValue) (r : DriverState D (List PlainBlock)) : Type 0 where
  pub own : IsUserOf shared p
  pub knows_it : knows p ≡ beginner (knows p).seen shared.terms
  pub first : IsFirst (knows p).seen
  pub config : shared.terms.config ≡ c
  pub few : length c.blocks ≤ 512
  pub untold : shared.terms.tells ≡ false
  pub tied : IsTied (desk_with shared.terms (knows p).seen) r.hand (told r.device)
  pub pending : HandIsPending (state_of (desk_with shared.terms (knows p).seen))
  pub next : NextIsPending shared.terms.config (state_of (desk_with shared.terms (knows p).seen))
