-- What a request that failed tells of the flash.
use Rattle.std.specs.Prelude.{◌≡◌, ◌⊎◌, ℕ, Bool, true, false, List, [], ◌∷◌, Contains, is_some, Option, Some}
use Rattle.nvm_moves.specs.block_machine.Words.{ReqResult, Fine, Mark, Invalid, Erased, Request, Accepted, Entry, Ask, Configuration}
use Rattle.nvm_moves.specs.block_machine.State.{State, Job}
use Rattle.nvm_moves.specs.block_machine.Blocks.{desc_of, indices_of, settled_at, asked_block, job_block}
use Rattle.nvm_moves.specs.block_machine.Results.{own_of, failed_set}
use Rattle.nvm_moves.specs.block_machine.Legal.{IsLegalFrom}
use Rattle.nvm_moves.specs.block_machine.Steps.{after_from}
use Rattle.uds_gateway.specs.Jobs.{HasNone, IsOwn, EndsPosted}
use Rattle.uds_gateway.specs.Codes.{is_read, gives_content}

-- a mark that gives nothing: Invalid, or Erased where there are no defaults
abbrev pub LacksContent : Bool → Mark → Type 0
LacksContent defaults mark = (mark ≡ Invalid) ⊎ ((mark ≡ Erased) × (defaults ≡ false))

-- such a mark is settled in an instance that a read of this block reads
pub record HasNoContent (c : Configuration) (s : State) (id : ℕ) : Type 0 where
  pub index : ℕ
  pub own : Contains (indices_of c s id) index
  pub lacks : LacksContent (is_some (desc_of c id).defaults) (settled_at s (record { block = id; index = index }))

-- no operation of the job in hand failed: the least set of failed ones that explains such a Post is empty
abbrev pub FailsNothing : Configuration → State → ReqResult → Option (List ℕ) → Type 0
FailsNothing c s r given = (j : Job) → s.hand ≡ Some j → failed_set (own_of c s (job_block j)) j (r, given) ≡ Some []

-- the state before the last entry of a job
abbrev pub before_end : Configuration → State → Request → List Entry → State
before_end c s asked way = after_from c s (Ask 0 asked Accepted ∷ way)

-- In a legal history, from a state with nothing pending on, and where no operation of its job failed,
-- a read that gives nothing found such a mark,
abbrev pub ReadsFailByMarks : Type 0
ReadsFailByMarks =
    (c : Configuration) (cap : ℕ) (s : State) (asked : Request) (piece : List Entry) → (p : EndsPosted asked piece) → HasNone s → IsOwn asked → IsLegalFrom c cap s piece
    → is_read asked ≡ true → gives_content p.result ≡ false → FailsNothing c (before_end c s asked p.ends.way) p.result p.given
    → HasNoContent c (before_end c s asked p.ends.way) (asked_block asked)

-- and a write is posted with 0
abbrev pub WritesSucceed : Type 0
WritesSucceed =
    (c : Configuration) (cap : ℕ) (s : State) (asked : Request) (piece : List Entry) → (p : EndsPosted asked piece) → HasNone s → IsOwn asked → IsLegalFrom c cap s piece
    → is_read asked ≡ false → FailsNothing c (before_end c s asked p.ends.way) p.result p.given
    → p.result ≡ Fine
