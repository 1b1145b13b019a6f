-- Words that are of a call over two flashes, and words that are of none.
use Rattle.std.specs.Prelude.{◌≡◌, [], ◌∷◌, codes, Some, None}
use Rattle.nvm_words.specs.declared.pair.PairCommand.TheVariants.{Play, Run}
use Rattle.nvm_words.specs.Pair.{pair_call_of, path_named}
use Rattle.nvm_words.specs.Words.{command_of}

-- `a play mem` and `mem run b`
abbrev pub ReadsPairCalls : Type 0
ReadsPairCalls =
    (pair_call_of (codes "a" ∷ codes "play" ∷ codes "mem" ∷ []) ≡ Some (record { command = Play; first = codes "a"; second = codes "mem" }))
    × (pair_call_of (codes "mem" ∷ codes "run" ∷ codes "b" ∷ []) ≡ Some (record { command = Run; first = codes "mem"; second = codes "b" }))

-- they are of no command over one flash
abbrev pub AreApart : Type 0
AreApart = (command_of (codes "a" ∷ codes "play" ∷ codes "mem" ∷ []) ≡ None) × (pair_call_of (codes "a" ∷ codes "play" ∷ []) ≡ None)

-- another command, a word that begins with `-`, an empty one, a word too many
abbrev pub RefusesOthers : Type 0
RefusesOthers =
    (pair_call_of (codes "a" ∷ codes "dump" ∷ codes "b" ∷ []) ≡ None)
    × (pair_call_of (codes "a" ∷ codes "play" ∷ codes "-b" ∷ []) ≡ None)
    × (pair_call_of (codes "a" ∷ codes "play" ∷ [] ∷ []) ≡ None)
    × (pair_call_of (codes "a" ∷ codes "play" ∷ codes "b" ∷ codes "c" ∷ []) ≡ None)

abbrev pub NamesPaths : Type 0
NamesPaths = (path_named (codes "mem") ≡ None) × (path_named (codes "a") ≡ Some (codes "a"))
