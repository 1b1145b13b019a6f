-- The output of a call tells its history.
use Rattle.std.specs.Prelude.{◌≡◌}
use Rattle.nvm_flash.specs.promise_device.FlashRun.{TellsBytes, StartsSound}
use Rattle.nvm_flash.specs.promise_run.Call.{Call, IsRunOf}
use Rattle.nvm_flash.specs.promise_run.Promise.{making_of}
use Rattle.nvm_flash.specs.promise_run.Run.{Run}
use Rattle.nvm_flash.specs.promise_run.Texts.{IsPrinted}
use Rattle.nvm_top.specs.Promised.{KeepsRun}

-- a run that is this call's, over a flash that tells its bytes, from a sound image on
pub record IsToldRunOf (call : Call) (r : Run) : Type 0 where
  pub run : IsRunOf call r
  pub keeps : KeepsRun r
  pub told : TellsBytes r.flash
  pub sound : StartsSound (making_of r.configuration) r.flash

-- two of one call have one history, where it ended with its whole text
abbrev pub OutputsTellHistories : Type 0
OutputsTellHistories = (call : Call) (r s : Run) → IsPrinted call → IsToldRunOf call r → IsToldRunOf call s → r.history ≡ s.history
