-- The text of a history tells the history.
use Rattle.std.specs.Prelude.{◌≡◌, ℕ, List, [], ◌∷◌, ◌++◌}
use Rattle.nvm_script.specs.Values.{IsEntryValue}
use Rattle.nvm_script.specs.Printed.{history_text, BeginsNoEntry}
use Rattle.block_machine.specs.Words.{Entry, Configuration}
use Rattle.block_machine.specs.Legal.{IsLegal}

-- the numbers and bytes of all entries are as small as those of a program
abbrev pub AreValues : List Entry → Type 0
AreValues [] = Unit {0}
AreValues (e ∷ es) = IsEntryValue e × AreValues es

-- Two legal histories of one configuration with the same text, with or without its last line, are the same history.
abbrev pub TextsTellLegalHistories : Type 0
TextsTellLegalHistories =
    (c : Configuration) (cap : ℕ) (a b : List Entry) (s t : List ℕ) → IsLegal c cap a → IsLegal c cap b → AreValues a → AreValues b → BeginsNoEntry s
    → BeginsNoEntry t
    → history_text a ++ s ≡ history_text b ++ t → (a ≡ b) × (s ≡ t)
