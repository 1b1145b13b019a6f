-- What `serve` adds to the history, and what it answers.
use Rattle.std.specs.Prelude.{◌≡◌, ◌⊎◌, ◌<◌, Bool, true, false, ℕ, List, [], ◌++◌, length, unwrap_or, IfOk, Some, Result, Ok, Err}
use Rattle.nvm_moves.specs.block_machine.Words.{Request, Entry, Configuration}
use Rattle.nvm_moves.specs.block_machine.Blocks.{desc_of, asked_block}
use Rattle.nvm_moves.specs.block_machine.Reply.{fits}
use Rattle.nvm_moves.specs.nv_desk.Desk.{DeskState, state_of}
use Rattle.uds_gateway.specs.declared.code.NegativeCode.{NegativeCode}
use Rattle.uds_gateway.specs.declared.stop.ServeStop.{ServeStop}
use Rattle.uds_gateway.specs.declared.stop.ServeStop.TheVariants.{Off, NoRoom, Memory}
use Rattle.uds_gateway.specs.Services.{asked_by}
use Rattle.uds_gateway.specs.Answers.{answer_by}
use Rattle.uds_gateway.specs.Jobs.{IsRefused, EndsPosted, EndsOff}

-- its Post gave more than the block's length, as none of a legal history does
abbrev pub GivesTooMuch : Configuration → Request → List Entry → Type 0
GivesTooMuch c asked piece = (p : EndsPosted asked piece) × ((desc_of c (asked_block asked)).length < length (unwrap_or p.given []))

-- The entries of a request, by what it asks for, whether its Ask fits, and the answer. One that asks for nothing touches nothing.
-- Want of memory comes before the Ask.
abbrev pub IsPieceOf : Configuration → Result Request NegativeCode → (fits : Bool) → List Entry → Result (List ℕ) ServeStop → Type 0
IsPieceOf c (Err code) fits piece (Ok answer) = piece ≡ []
IsPieceOf c (Err code) fits piece (Err Memory) = piece ≡ []
IsPieceOf c (Err code) fits piece (Err other) = ⊥
IsPieceOf c (Ok asked) fits piece (Ok answer) = (fits ≡ true) × (IsRefused asked piece ⊎ EndsPosted asked piece)
IsPieceOf c (Ok asked) fits piece (Err Off) = (fits ≡ true) × EndsOff asked piece
IsPieceOf c (Ok asked) fits piece (Err NoRoom) = (fits ≡ false) × (piece ≡ [])
IsPieceOf c (Ok asked) fits piece (Err Memory) = (piece ≡ []) ⊎ GivesTooMuch c asked piece

-- the history grew by them, and they have this answer
pub record ServesBy (c : Configuration) (request : List ℕ) (asked : Result Request NegativeCode) (result : Result (List ℕ) ServeStop) (old new : DeskState) : Type 0 where
  pub piece : List Entry
  pub adds : new ≡ record old { entries = old.entries ++ piece }
  pub is : IsPieceOf c asked (fits c old.cap (state_of old) 1) piece result
  pub answers : IfOk result (λ answer. answer_by request asked piece ≡ Some answer)

-- that is `uds` of them
abbrev pub Serves : Configuration → List ℕ → Result (List ℕ) ServeStop → DeskState → DeskState → Type 0
Serves c request = ServesBy c request (asked_by c request)
