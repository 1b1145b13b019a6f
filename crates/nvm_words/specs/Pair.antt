-- A call over two flashes: a flash and, in a third word, the EEPROM beside it.
use Rattle.std.specs.Prelude.{ℕ, if◌then◌else◌, not, List, ◌∷◌, [], codes, Option, Some, None}
use Rattle.std.specs.Str.{bytes_eq}
use Rattle.nvm_words.specs.declared.pair.PairCall.{PairCall}
use Rattle.nvm_words.specs.declared.pair.PairCommand.{PairCommand}
use Rattle.nvm_words.specs.declared.pair.PairCommand.TheVariants.{Play, Run}
use Rattle.nvm_words.specs.Words.{are_words, is_memory}

-- a command, and the words of both images
pub record CallOverTwo : Type 0 where
  pub command : PairCommand
  pub first : List ℕ
  pub second : List ℕ

-- the commands that make the steps of a script
abbrev pub pair_command_named : List ℕ → Option PairCommand
pair_command_named word = if bytes_eq word (codes "play") then Some Play else (if bytes_eq word (codes "run") then Some Run else None)

abbrev pub with_images : (first second : List ℕ) → Option PairCommand → Option CallOverTwo
with_images first second None = None
with_images first second (Some command) = Some (record { command = command; first = first; second = second })

abbrev pub call_named : (image word second : List ℕ) → Option CallOverTwo
call_named image word second = with_images image second (pair_command_named word)

-- an image, one of these commands, and the second image; None where the words are of no such call
abbrev pub call_in : List (List ℕ) → Option CallOverTwo
call_in (image ∷ word ∷ second ∷ []) = call_named image word second
call_in words = None

abbrev pub pair_call_of : List (List ℕ) → Option CallOverTwo
pair_call_of words = if are_words words then call_in words else None

-- what the words are of a call
abbrev pub told_call : PairCall → CallOverTwo
told_call c = record { command = c.command; first = c.first.now; second = c.second.now }

-- the path of an image file; None for a flash in memory
abbrev pub path_named : List ℕ → Option (List ℕ)
path_named image = if not (is_memory image) then Some image else None
