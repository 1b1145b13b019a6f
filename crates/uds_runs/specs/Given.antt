-- What a Post gives in a legal history.
use Rattle.std.specs.Prelude.{◌≡◌, ℕ, List, ◌++◌, length, IfSome}
use Rattle.uds_gateway.specs.block_config.Rules.{IsLegalConfig}
use Rattle.uds_gateway.specs.block_machine.Words.{Request, Entry, Configuration}
use Rattle.uds_gateway.specs.block_machine.Blocks.{desc_of, asked_block}
use Rattle.uds_gateway.specs.block_machine.Steps.{after}
use Rattle.uds_gateway.specs.block_machine.Legal.{IsLegal}
use Rattle.uds_gateway.specs.Jobs.{HasNone, IsOwn, EndsPosted}
use Rattle.uds_gateway.specs.Serving.{GivesTooMuch}

-- The entries of a request stand behind a legal history with nothing pending, and it stays legal with them, by a configuration that
-- keeps its rules: what the Post gives has the block's length,
abbrev pub PostsGiveLengths : Type 0
PostsGiveLengths =
    (c : Configuration) (cap : ℕ) (h : List Entry) (asked : Request) (piece : List Entry) → IsLegalConfig c → IsLegal c cap (h ++ piece) → HasNone (after c h) → IsOwn asked
    → (p : EndsPosted asked piece) → IfSome p.given (λ bytes. length bytes ≡ (desc_of c (asked_block asked)).length)

-- and so none gives more
abbrev pub NoneGivesTooMuch : Type 0
NoneGivesTooMuch =
    (c : Configuration) (cap : ℕ) (h : List Entry) (asked : Request) (piece : List Entry) → IsLegalConfig c → IsLegal c cap (h ++ piece) → HasNone (after c h) → IsOwn asked
    → GivesTooMuch c asked piece → ⊥
