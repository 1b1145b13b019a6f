-- The first refusal that holds of a request.
use Rattle.std.specs.Prelude.{ℕ, Option, find}
use Rattle.block_machine.specs.Words.{Configuration, Request, Refusal}
use Rattle.block_machine.specs.State.{State}
use Rattle.block_machine.specs.Reply.{holds, tested}

abbrev pub first_refusal : Configuration → ℕ → State → Request → Option Refusal
first_refusal c cap s r = find (λ x. holds c cap s x r) (tested r)
