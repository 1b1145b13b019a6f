-- The output of a call tells its history.
use Rattle.nvm_flash.specs.promise_run.Call.{Call}
use Rattle.nvm_flash.specs.promise_run.Run.{Run}
use Rattle.nvm_flash.specs.promise_run.Texts.{IsLegalRunOf}
use Rattle.nvm_flash.proofs.Texts.{calls_tell_histories}
use Rattle.nvm_top.specs.Outputs.{IsToldRunOf, OutputsTellHistories}

legal_run : (call : Call) (r : Run) → IsToldRunOf call r → IsLegalRunOf call r
legal_run call r is = record { run = is.run; legal = (is.keeps.promise is.told is.sound).block_machine; values = is.keeps.values }

pub outputs_tell_histories : OutputsTellHistories
outputs_tell_histories call r s printed a b = calls_tell_histories call r s printed (legal_run call r a) (legal_run call s b)
