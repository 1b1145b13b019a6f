use Rattle.std.proofs.Common.{◌≡◌, ◌∙◌, inl, inr, ℕ, List, [], map, string_bytes, ap, subst, Global}
use Rattle.clap.specs.Words.{App, app_of, fault_of, is_simple, is_simple_and_free, matches_of, IsAmong, found_of, kind_of}
use Rattle.nvm_words.specs.Grammar.{line}
use Rattle.nvm_words.proofs.Parses.{found, refused, places_are, places_in, line_is_simple, line_is_read}
use Rattle.nvm_words.proofs.fields.read_fields.Goals as goal

pub returns-in-Ok : goal.returns-in-Ok
returns-in-Ok c =
    let words : List (List ℕ) = map (string_bytes {Z = Global}) c.args.words.now in
    let line_is : app_of c.in_ok-line.field-0 ≡ line = c.in_ok-line.ensures in
    let none = subst (λ (a : App). fault_of a words ≡ []) line_is (c.in-Ok.ensures.kinds (ap is_simple_and_free line_is ∙ line_is_simple)) in
    let rows = (c.in-Ok.ensures.matches (ap is_simple line_is ∙ line_is_read)).0 in
    c.fields_in.ensures ∙ places_are (found_of c.in-Ok.matches) ∙ ap places_in (rows ∙ ap (λ (a : App). matches_of a words) line_is) ∙ found words c.requires none

pub returns : goal.returns
returns c =
    let words : List (List ℕ) = map (string_bytes {Z = Global}) c.args.words.now in
    let line_is : app_of c.in_ok-line.field-0 ≡ line = c.in_ok-line.ensures in
    let kinds = c.in-Err.ensures.kinds (ap is_simple_and_free line_is ∙ line_is_simple) in
    elim kinds [
      | inl memory ↦ absurd (c.in_default.not-OutOfMemory (c.kind.ensures ∙ memory))
      | inr among ↦ refused words (kind_of c.in-Err.error) c.requires (subst (λ (a : App). IsAmong (kind_of c.in-Err.error) (fault_of a words)) line_is among)
    ]
