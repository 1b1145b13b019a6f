-- What is added to a text.
use Rattle.std.specs.Prelude.{◌≡◌, ℕ, true, List, ◌++◌}
use Rattle.nvm_script.specs.declared.text.Text.{Text}

-- this part was added at the end of the text, where the new one is whole
pub record Adds (part : List ℕ) (old new : Text) : Type 0 where
  pub whole : new.whole ≡ true → old.whole ≡ true
  pub bytes : new.whole ≡ true → new.written.items ≡ old.written.items ++ part
