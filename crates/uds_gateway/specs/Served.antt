-- Requests one after another, each with the entries of its job.
use Rattle.std.specs.Prelude.{◌≡◌, ◌⊎◌, ℕ, List, [], ◌∷◌, Result, Ok, Err}
use Rattle.nvm_moves.specs.block_machine.Words.{Request, Entry, Configuration}
use Rattle.uds_gateway.specs.declared.code.NegativeCode.{NegativeCode}
use Rattle.uds_gateway.specs.Services.{asked_by}
use Rattle.uds_gateway.specs.Jobs.{IsRefused, EndsPosted, EndsOff}

abbrev pub HasPiece : Result Request NegativeCode → List Entry → Type 0
HasPiece (Err code) piece = piece ≡ []
HasPiece (Ok asked) piece = IsRefused asked piece ⊎ EndsPosted asked piece

-- one that asks for nothing adds none; else its Ask comes first, and it is refused, or its Post is the last
abbrev pub IsServedBy : Configuration → List ℕ → List Entry → Type 0
IsServedBy c request piece = HasPiece (asked_by c request) piece

-- each of these, in order
abbrev pub AreServed : Configuration → List (List ℕ) → List (List Entry) → Type 0
AreServed c [] [] = Unit {0}
AreServed c (request ∷ requests) (piece ∷ pieces) = IsServedBy c request piece × AreServed c requests pieces
AreServed c _ _ = ⊥

-- the power went off in its job
abbrev pub IsOffBy : Configuration → List ℕ → List Entry → Type 0
IsOffBy c request piece = (asked : Request) × (asked_by c request ≡ Ok asked) × EndsOff asked piece
