-- Why requests of a call of `uds` fail where nothing fails.
use Rattle.std.specs.Prelude.{ℕ, List, [], ◌∷◌}
use Rattle.nvm_top.specs.nvm_flash.block_config.Config.{Configuration}
use Rattle.nvm_top.specs.nvm_flash.block_machine.Words.{Entry, Found}
use Rattle.nvm_top.specs.nvm_flash.block_machine.State.{State}
use Rattle.nvm_top.specs.nvm_flash.block_machine.Steps.{after}
use Rattle.nvm_top.specs.nvm_flash.promise_device.Bridge.{IsWornOut}
use Rattle.nvm_top.specs.nvm_flash.promise_device.FlashRun.{TellsBytes, StartsSound}
use Rattle.nvm_top.specs.nvm_flash.promise_run.Call.{Call}
use Rattle.nvm_top.specs.nvm_flash.promise_run.Completeness.{IsCalm}
use Rattle.nvm_top.specs.nvm_flash.promise_run.Promise.{making_of}
use Rattle.nvm_top.specs.nvm_flash.promise_run.Run.{Run}
use Rattle.script_walks.specs.Words.{Step}
use Rattle.nvm_script.specs.declared.script.Mode.TheVariants as mode
use Rattle.nvm_top.specs.nvm_lines.declared.status.Status.{Status}
use Rattle.nvm_top.specs.Promised.{HasRun}
use Rattle.nvm_top.specs.Uds.{TellsServed, TellsRequests}
use Rattle.uds_runs.specs.Causes.{EachHasCauses}

-- by the marks that are settled before each Post, and by what the flash holds written
abbrev pub HaveCausesIn : (r : Run) (start : State) (requests : List (List ℕ)) (pieces : List (List Entry)) → Type 0
HaveCausesIn r start requests pieces = EachHasCauses r.configuration (IsWornOut (making_of r.configuration) r.flash) start requests pieces

-- A call tells how requests were served in its run. Where nothing fails in that, over a flash that tells its bytes, from a sound
-- image on, each of their answers has its cause.
abbrev pub CallsHaveCauses : Type 0
CallsHaveCauses =
    (c : Configuration) (requests : List (List ℕ)) (steps : List Step) (call : Call) (x : Status) (told : HasRun mode.Play c steps (TellsRequests c requests call x) call.entry call.exit)
    → (served : TellsServed c requests call x told.run) → IsCalm told.run → TellsBytes told.run.flash → StartsSound (making_of told.run.configuration) told.run.flash
    → HaveCausesIn told.run (after told.run.configuration (Found served.marks served.ops ∷ [])) served.serves.first served.serves.pieces
