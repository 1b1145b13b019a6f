-- The text of a call tells its history.
use Rattle.std.specs.Prelude.{◌≡◌, ◌≢◌, ℕ, List, Some}
use Rattle.block_machine.specs.Legal.{IsLegal}
use Rattle.script_walks.specs.Texts.{AreValues}
use Rattle.promise_run.specs.Call.{Call, IsRunOf}
use Rattle.promise_run.specs.Run.{Run}

-- its input and its output are told, and it ended with its whole text: at 0, 7 or 11
pub record IsPrinted (call : Call) : Type 0 where
  pub input : List ℕ
  pub read : call.input ≡ Some input
  pub before : List ℕ
  pub written : call.written.bytes ≡ Some before
  pub no_fault : call.status ≢ 6
  pub no_want : call.status ≢ 8

-- a run of the call whose history is legal, with numbers and bytes as small as those of a program
pub record IsLegalRunOf (call : Call) (r : Run) : Type 0 where
  pub run : IsRunOf call r
  pub legal : IsLegal r.configuration r.most r.history
  pub values : AreValues r.history

-- two such runs of one call have one history
abbrev pub CallsTellHistories : Type 0
CallsTellHistories = (call : Call) (r s : Run) → IsPrinted call → IsLegalRunOf call r → IsLegalRunOf call s → r.history ≡ s.history
