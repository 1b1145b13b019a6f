-- What the words of a call mean; how they are told to `clap` says Grammar.
use Rattle.std.specs.Prelude.{ℕ, ◌==◌, ◌&&◌, Bool, true, false, not, if◌then◌else◌, List, [], ◌∷◌, codes, Option, Some, None, option_and_then, option_map}
use Rattle.std.specs.List.{list_all}
use Rattle.std.specs.Str.{bytes_eq}
use Rattle.nv_base.specs.Decimal.{decimal_number_of}
use Rattle.nvm_words.specs.declared.words.CommandKind.{CommandKind}
use Rattle.nvm_words.specs.declared.words.CommandKind.TheVariants.{Play, Run, Dump, Check, Soak, Uds}

-- a word isn't empty and doesn't begin with `-` (45)
abbrev pub is_word : List ℕ → Bool
is_word [] = false
is_word (b ∷ bs) = not (b == 45)

abbrev pub are_words : List (List ℕ) → Bool
are_words words = list_all is_word words

-- THE COMMANDS

-- those of one word
abbrev pub command_named : List ℕ → Option CommandKind
command_named word =
    if bytes_eq word (codes "play") then Some Play else (if bytes_eq word (codes "run") then Some Run else (if bytes_eq word (codes "dump") then Some Dump
    else (if bytes_eq word (codes "check") then Some Check else (if bytes_eq word (codes "uds") then Some Uds else None))))

-- `soak`, a seed and a count of rounds
abbrev pub soak_named : List ℕ → List ℕ → List ℕ → Option CommandKind
soak_named word seed count =
    if bytes_eq word (codes "soak") then option_and_then (λ s. option_map (λ n. Soak s n) (decimal_number_of 0 10000 count)) (decimal_number_of 0 4294967295 seed) else None

-- A CALL

-- an image, and the words of a command behind it; None where the words are of no command
abbrev pub command_in : List (List ℕ) → Option CommandKind
command_in (image ∷ word ∷ []) = command_named word
command_in (image ∷ word ∷ seed ∷ count ∷ []) = soak_named word seed count
command_in words = None

abbrev pub command_of : List (List ℕ) → Option CommandKind
command_of words = if are_words words then command_in words else None

abbrev pub is_play : Option CommandKind → Bool
is_play (Some Play) = true
is_play _ = false

abbrev pub is_run : Option CommandKind → Bool
is_run (Some Run) = true
is_run _ = false

abbrev pub is_check : Option CommandKind → Bool
is_check (Some Check) = true
is_check _ = false

abbrev pub is_dump : Option CommandKind → Bool
is_dump (Some Dump) = true
is_dump _ = false

abbrev pub is_uds : Option CommandKind → Bool
is_uds (Some Uds) = true
is_uds _ = false

-- THE IMAGE

-- `mem` stands for a flash in memory, any other word for the path of an image file
abbrev pub is_memory : List ℕ → Bool
is_memory image = bytes_eq image (codes "mem")

-- a command works on the flash; `check` leaves it alone
abbrev pub works_on_flash : Option CommandKind → Bool
works_on_flash None = false
works_on_flash (Some Check) = false
works_on_flash (Some command) = true

-- the path of the image file that the command works on, if it works on one
abbrev pub image_path : List (List ℕ) → Option (List ℕ)
image_path [] = None
image_path (image ∷ rest) = if works_on_flash (command_of (image ∷ rest)) && not (is_memory image) then Some image else None
