-- When each negative code comes.
use Rattle.std.specs.Prelude.{◌≡◌, ◌≢◌, ◌⊎◌, ◌↔◌, ℕ, Bool, true, false, List, Some, Result, Ok, Err}
use Rattle.nvm_moves.specs.block_machine.Words.{ReqResult, Fine, RedundancyFailed, Restored, Request, Read, Entry, Configuration}
use Rattle.uds_gateway.specs.declared.code.NegativeCode.{NegativeCode}
use Rattle.uds_gateway.specs.declared.code.NegativeCode.TheVariants.{ConditionsNotCorrect, ProgrammingFailure}
use Rattle.uds_gateway.specs.Services.{asked_by}
use Rattle.uds_gateway.specs.Answers.{negative, uds}
use Rattle.uds_gateway.specs.Jobs.{IsRefused, EndsPosted}
use Rattle.uds_gateway.specs.Served.{IsServedBy}

abbrev pub is_read : Request → Bool
is_read (Read block ram) = true
is_read asked = false

-- a read that is posted with this result gave a content
abbrev pub gives_content : ReqResult → Bool
gives_content Fine = true
gives_content RedundancyFailed = true
gives_content Restored = true
gives_content r = false

-- the Post of a read gave none
abbrev pub FailsToRead : Request → List Entry → Type 0
FailsToRead asked piece = (is_read asked ≡ true) × (p : EndsPosted asked piece) × (gives_content p.result ≡ false)

-- that of a write tells that not every instance was written
abbrev pub FailsToWrite : Request → List Entry → Type 0
FailsToWrite asked piece = (is_read asked ≡ false) × (p : EndsPosted asked piece) × (p.result ≢ Fine)

-- of a request that asks for something: 22 by a refusal, or a read that gave nothing, and 72 by a write that failed
abbrev pub CaseOf : NegativeCode → Request → List Entry → Type 0
CaseOf ConditionsNotCorrect asked piece = IsRefused asked piece ⊎ FailsToRead asked piece
CaseOf ProgrammingFailure asked piece = FailsToWrite asked piece
CaseOf code asked piece = ⊥

-- of any: 11, 13 and 31 by the request alone
abbrev pub CaseBy : NegativeCode → Result Request NegativeCode → List Entry → Type 0
CaseBy code (Err why) piece = why ≡ code
CaseBy code (Ok asked) piece = CaseOf code asked piece

-- each code comes exactly by its case
abbrev pub CodesHaveCases : Type 0
CodesHaveCases =
    (c : Configuration) (request : List ℕ) (piece : List Entry) (code : NegativeCode) → IsServedBy c request piece
    → (uds c request piece ≡ Some (negative request code)) ↔ CaseBy code (asked_by c request) piece
