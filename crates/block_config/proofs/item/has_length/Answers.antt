use Rattle.std.proofs.Common.{◌≡◌, ◌∙◌, ◌==◌, List, ℕ, Option, Some, None, option_and_then, option_map, length, subst, refl}
use Rattle.std.specs.Option.{option_eq}
use Rattle.block_config.specs.Content.{content_of}
use Rattle.block_config.specs.Item.{has_length}
use Rattle.block_config.proofs.item.has_length.Goals as goal

equal_length : (n : ℕ) (content : Option (List ℕ)) → option_eq (λ (a b : ℕ). a == b) (option_map (λ bytes. length bytes) content) (Some n) ≡ has_length n content
equal_length n (Some bytes) = refl
equal_length n None = refl

pub returns-in-Some : goal.returns-in-Some
returns-in-Some c =
    let equal = (rw (c.content_len.ensures, c.from.ensures) at c.eq.ensures) ∙ equal_length c.args.length (content_of c.as_bytes.result.now) in
    let read = subst (λ (text : List ℕ). c.eq.result ≡ has_length c.args.length (content_of text)) c.as_bytes.ensures.value equal in
    subst (λ (text : Option (List ℕ)). c.eq.result ≡ has_length c.args.length (option_and_then content_of text)) (rw c.in-Some.is at c.as_str.ensures) read
