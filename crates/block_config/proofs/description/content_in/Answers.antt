use Rattle.std.proofs.Common.{◌≡◌, List, ℕ, Option, IfOk, option_and_then, subst}
use Rattle.block_config.specs.Content.{content_of}
use Rattle.block_config.proofs.description.content_in.Goals as goal

pub returns-in-Some : goal.returns-in-Some
returns-in-Some c =
    let read = subst (λ (text : List ℕ). IfOk c.read_content.result (λ r. r ≡ content_of text)) c.as_bytes.ensures.value c.read_content.ensures in
    subst (λ (text : Option (List ℕ)). IfOk c.read_content.result (λ r. r ≡ option_and_then content_of text)) (rw c.in-Some.is at c.as_str.ensures) read
