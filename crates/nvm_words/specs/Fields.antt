-- The words of a call, by their places.
use Rattle.std.specs.Prelude.{ℕ, List, [], ◌∷◌, Option, Some, None, option_map}
use Rattle.nvm_words.specs.declared.fields.Fields.{Fields}
use Rattle.nvm_words.specs.declared.words.CommandKind.{CommandKind}
use Rattle.nvm_words.specs.Pair.{CallOverTwo, call_named}
use Rattle.nvm_words.specs.Words.{command_named, soak_named}

pub record Places : Type 0 where
  pub image : List ℕ
  pub command : List ℕ
  pub third : Option (List ℕ)
  pub fourth : Option (List ℕ)

-- an image and a command, then two words that may be left out; None where the words are fewer or more
abbrev pub places_of : List (List ℕ) → Option Places
places_of (image ∷ command ∷ []) = Some (record { image = image; command = command; third = None; fourth = None })
places_of (image ∷ command ∷ third ∷ []) = Some (record { image = image; command = command; third = Some third; fourth = None })
places_of (image ∷ command ∷ third ∷ fourth ∷ []) = Some (record { image = image; command = command; third = Some third; fourth = Some fourth })
places_of _ = None

-- the command that is asked for by the words in these places
abbrev pub command_with : List ℕ → Option (List ℕ) → Option (List ℕ) → Option CommandKind
command_with word None None = command_named word
command_with word (Some seed) (Some count) = soak_named word seed count
command_with word _ _ = None

abbrev pub command_at : Places → Option CommandKind
command_at p = command_with p.command p.third p.fourth

-- and the call over two flashes
abbrev pub call_with : (image word : List ℕ) → Option (List ℕ) → Option (List ℕ) → Option CallOverTwo
call_with image word (Some second) None = call_named image word second
call_with image word _ _ = None

abbrev pub call_at : Places → Option CallOverTwo
call_at p = call_with p.image p.command p.third p.fourth

-- what the words are that were found
abbrev pub shown : Fields → Places
shown f = record {
  image = f.image.now;
  command = f.command.now;
  third = option_map (λ w. w.now) f.third;
  fourth = option_map (λ w. w.now) f.fourth;
}

-- the places by what was found for each
abbrev pub places_found : Option (List ℕ) → Option (List ℕ) → Option (List ℕ) → Option (List ℕ) → Option Places
places_found None command third fourth = None
places_found (Some image) None third fourth = None
places_found (Some image) (Some command) third fourth = Some (record { image = image; command = command; third = third; fourth = fourth })
