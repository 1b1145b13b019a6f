-- What `clap` makes of the command line, word by word.
use Rattle.std.proofs.Common.{◌≡◌, ◌∙◌, ◌==◌, ◌&&◌, ℕ, Bool, true, false, not, List, [], ◌∷◌, Option, Some, None, is_some, refl, sym, ap, ap₂, codes, true≢false}
use Rattle.std.specs.List.{fold}
use Rattle.clap.proofs.OnLiterals.{clap_on_literals}
use Rattle.clap.proofs.WalkLemmas.{first_value-rows}
use Rattle.clap.specs.declared.parser.matches.Found.{Found}
use Rattle.clap.specs.Words.{first_value, rows_of}
use Rattle.clap.specs.declared.builder.value_parser.Reading.TheVariants as reading
use Rattle.clap.specs.declared.error.kind.ErrorKind.{ErrorKind}
use Rattle.clap.specs.declared.error.kind.ErrorKind.TheVariants.{UnknownArgument, MissingRequiredArgument}
use Rattle.clap.specs.declared.parser.matches.ValueSource.TheVariants.{CommandLine}
use Rattle.clap.specs.Faults.{fault_of, is_simple_and_free, turn_fault, step_fault, walk_fault, settle_fault, defaults_fault, check_fault, entered_fault}
use Rattle.clap.specs.Kinds.{Kinds, IsAmong, or_else}
use Rattle.clap.specs.Simple.{App, Shape, built, entered, is_simple, matches_of}
use Rattle.clap.specs.Walk.{Held, Row, Rule, Text, Walk, idle, value, arg_by_index, finished, first_of, nothing_held, settled, to_positional, walked}
use Rattle.nvm_words.specs.Fields.{Places, places_found, places_of}
use Rattle.nvm_words.specs.Grammar.{line}
use Rattle.nvm_words.specs.Words.{is_word, are_words}

abbrev whole : App
whole = built line

abbrev shape : Shape
shape = whole.top

abbrev rules : List Rule
rules = shape.rules

pub line_is_simple : is_simple_and_free line ≡ true
unfolding clap_on_literals
line_is_simple = refl

pub line_is_read : is_simple line ≡ true
unfolding clap_on_literals
line_is_read = refl

-- before the word that goes to position p
abbrev at : Held → ℕ → Walk
at h p = record { held = h; waiting = idle; position = p; is_trailing = false; stopped = None }

-- ONE WORD
is_plain : (b : Bool) → not b ≡ true → b ≡ false
is_plain true e = sym e
is_plain false e = refl

word_goes_at : (c : List Rule) (h : Held) (p x : ℕ) (xs : Text) → (x == 45) ≡ false → walked c [] (at h p) (x ∷ xs) ≡ to_positional c (arg_by_index c p) (x ∷ xs) (at h p) h
unfolding clap_on_literals
word_goes_at c h p x xs e = rw (e, e) refl

word_fails_at : (s : Shape) (h : Held) (p x : ℕ) (xs : Text) → (x == 45) ≡ false → turn_fault s [] (at h p) (x ∷ xs) ≡ step_fault s p h value
unfolding clap_on_literals
word_fails_at s h p x xs e = rw (e, e) refl

-- one that doesn't begin with `-` goes to the positional of its place
word_goes : (c : List Rule) (h : Held) (p : ℕ) (w : Text) → is_word w ≡ true → walked c [] (at h p) w ≡ to_positional c (arg_by_index c p) w (at h p) h
word_goes c h p [] e = absurd (true≢false (sym e))
word_goes c h p (x ∷ xs) e = word_goes_at c h p x xs (is_plain _ e)

-- and fails only there
word_fails : (s : Shape) (h : Held) (p : ℕ) (w : Text) → is_word w ≡ true → turn_fault s [] (at h p) w ≡ step_fault s p h value
word_fails s h p [] e = absurd (true≢false (sym e))
word_fails s h p (x ∷ xs) e = word_fails_at s h p x xs (is_plain _ e)

-- THE STATES OF A WALK
abbrev row : Text → Text → Row
row id word = record { id = id; values = word ∷ []; count = None; source = Some CommandLine; reading = reading.AsWritten }

abbrev held : List Row → Text → Text → Held
held rows id word = record { rows = rows; pending = Some (id, word ∷ []); skip = 0 }

abbrev held_1 : Text → Held
held_1 a = held [] (codes "IMAGE") a

abbrev held_2 : Text → Text → Held
held_2 a b = held (row (codes "IMAGE") a ∷ []) (codes "COMMAND") b

abbrev held_3 : Text → Text → Text → Held
held_3 a b c = held (row (codes "IMAGE") a ∷ row (codes "COMMAND") b ∷ []) (codes "THIRD") c

abbrev held_4 : Text → Text → Text → Text → Held
held_4 a b c d = held (row (codes "IMAGE") a ∷ row (codes "COMMAND") b ∷ row (codes "THIRD") c ∷ []) (codes "FOURTH") d

abbrev start : Walk
start = at nothing_held 1

step_1 : (a : Text) → is_word a ≡ true → walked rules [] start a ≡ at (held_1 a) 2
step_1 a e = word_goes rules nothing_held 1 a e

step_2 : (a b : Text) → is_word b ≡ true → walked rules [] (at (held_1 a) 2) b ≡ at (held_2 a b) 3
step_2 a b e = word_goes rules (held_1 a) 2 b e

step_3 : (a b c : Text) → is_word c ≡ true → walked rules [] (at (held_2 a b) 3) c ≡ at (held_3 a b c) 4
step_3 a b c e = word_goes rules (held_2 a b) 3 c e

step_4 : (a b c d : Text) → is_word d ≡ true → walked rules [] (at (held_3 a b c) 4) d ≡ at (held_4 a b c d) 5
step_4 a b c d e = word_goes rules (held_3 a b c) 4 d e

-- A WALK
abbrev walks : Walk → List Text → Walk
walks w words = fold (walked rules []) w words

-- what a walk fails by
abbrev faults : Walk → List Text → Kinds
faults w words = walk_fault shape [] w words

-- and what fails behind it
abbrev behind : Walk → Kinds
behind w =
    or_else (entered_fault whole w.stopped) (or_else (settle_fault rules shape.args_override_self w.held) (or_else (defaults_fault (settled rules w.held).rows rules) (check_fault shape (finished rules w.held) (is_some (entered whole w.stopped)))))

split : (words : List Text) → fault_of line words ≡ or_else (faults start words) (behind (walks start words))
split words = refl

more : (w : Walk) (word : Text) (rest : List Text) → faults w (word ∷ rest) ≡ or_else (turn_fault shape [] w word) (faults (walked rules [] w word) rest)
unfolding clap_on_literals
more w word rest = refl

next : (h : Held) (p : ℕ) (word : Text) (rest : List Text) (w : Walk) → is_word word ≡ true → step_fault shape p h value ≡ [] → walked rules [] (at h p) word ≡ w → faults (at h p) (word ∷ rest) ≡ faults w rest
next h p word rest w e none e' =
    more (at h p) word rest ∙ ap₂ or_else (word_fails shape h p word e ∙ none) (ap (λ (v : Walk). faults v rest) e')

none_left : (w : Walk) → faults w [] ≡ []
unfolding clap_on_literals
none_left w = refl

goes_1 : (a : Text) (rest : List Text) → is_word a ≡ true → faults start (a ∷ rest) ≡ faults (at (held_1 a) 2) rest
goes_1 a rest e = next nothing_held 1 a rest (at (held_1 a) 2) e refl (step_1 a e)

goes_2 : (a b : Text) (rest : List Text) → is_word b ≡ true → faults (at (held_1 a) 2) (b ∷ rest) ≡ faults (at (held_2 a b) 3) rest
goes_2 a b rest e = next (held_1 a) 2 b rest (at (held_2 a b) 3) e refl (step_2 a b e)

goes_3 : (a b c : Text) (rest : List Text) → is_word c ≡ true → faults (at (held_2 a b) 3) (c ∷ rest) ≡ faults (at (held_3 a b c) 4) rest
goes_3 a b c rest e = next (held_2 a b) 3 c rest (at (held_3 a b c) 4) e refl (step_3 a b c e)

goes_4 : (a b c d : Text) (rest : List Text) → is_word d ≡ true → faults (at (held_3 a b c) 4) (d ∷ rest) ≡ faults (at (held_4 a b c d) 5) rest
goes_4 a b c d rest e = next (held_3 a b c) 4 d rest (at (held_4 a b c d) 5) e refl (step_4 a b c d e)

-- a fifth word finds no place
stray : (a b c d f : Text) (rest : List Text) → is_word f ≡ true → faults (at (held_4 a b c d) 5) (f ∷ rest) ≡ UnknownArgument ∷ []
stray a b c d f rest e =
    more (at (held_4 a b c d) 5) f rest ∙ ap (λ (ks : Kinds). or_else ks (faults (walked rules [] (at (held_4 a b c d) 5) f) rest)) (word_fails shape (held_4 a b c d) 5 f e)

-- a walk that fails nowhere, to its end
ends : (words : List Text) (w : Walk) → faults start words ≡ [] → walks start words ≡ w → fault_of line words ≡ behind w
ends words w none e = split words ∙ ap₂ or_else none (ap behind e)

-- EACH NUMBER OF WORDS
fails_0 : fault_of line [] ≡ MissingRequiredArgument ∷ []
unfolding clap_on_literals
fails_0 = refl

fails_1 : (a : Text) → is_word a ≡ true → fault_of line (a ∷ []) ≡ MissingRequiredArgument ∷ []
unfolding clap_on_literals
fails_1 a ea = ends (a ∷ []) (at (held_1 a) 2) (goes_1 a [] ea ∙ none_left (at (held_1 a) 2)) (step_1 a ea)

walk_2 : (a b : Text) → is_word a ≡ true → is_word b ≡ true → walks start (a ∷ b ∷ []) ≡ at (held_2 a b) 3
walk_2 a b ea eb = ap (λ (w : Walk). walked rules [] w b) (step_1 a ea) ∙ step_2 a b eb

passes_2 : (a b : Text) → is_word a ≡ true → is_word b ≡ true → fault_of line (a ∷ b ∷ []) ≡ []
unfolding clap_on_literals
passes_2 a b ea eb = ends (a ∷ b ∷ []) (at (held_2 a b) 3) (goes_1 a (b ∷ []) ea ∙ goes_2 a b [] eb ∙ none_left (at (held_2 a b) 3)) (walk_2 a b ea eb)

walk_3 : (a b c : Text) → is_word a ≡ true → is_word b ≡ true → is_word c ≡ true → walks start (a ∷ b ∷ c ∷ []) ≡ at (held_3 a b c) 4
walk_3 a b c ea eb ec = ap (λ (w : Walk). walked rules [] w c) (walk_2 a b ea eb) ∙ step_3 a b c ec

passes_3 : (a b c : Text) → is_word a ≡ true → is_word b ≡ true → is_word c ≡ true → fault_of line (a ∷ b ∷ c ∷ []) ≡ []
unfolding clap_on_literals
passes_3 a b c ea eb ec = ends (a ∷ b ∷ c ∷ []) (at (held_3 a b c) 4) (goes_1 a (b ∷ c ∷ []) ea ∙ goes_2 a b (c ∷ []) eb ∙ goes_3 a b c [] ec ∙ none_left (at (held_3 a b c) 4)) (walk_3 a b c ea eb ec)

walk_4 : (a b c d : Text) → is_word a ≡ true → is_word b ≡ true → is_word c ≡ true → is_word d ≡ true → walks start (a ∷ b ∷ c ∷ d ∷ []) ≡ at (held_4 a b c d) 5
walk_4 a b c d ea eb ec ed = ap (λ (w : Walk). walked rules [] w d) (walk_3 a b c ea eb ec) ∙ step_4 a b c d ed

passes_4 : (a b c d : Text) → is_word a ≡ true → is_word b ≡ true → is_word c ≡ true → is_word d ≡ true → fault_of line (a ∷ b ∷ c ∷ d ∷ []) ≡ []
unfolding clap_on_literals
passes_4 a b c d ea eb ec ed =
    ends (a ∷ b ∷ c ∷ d ∷ []) (at (held_4 a b c d) 5) (goes_1 a (b ∷ c ∷ d ∷ []) ea ∙ goes_2 a b (c ∷ d ∷ []) eb ∙ goes_3 a b c (d ∷ []) ec ∙ goes_4 a b c d [] ed ∙ none_left (at (held_4 a b c d) 5)) (walk_4 a b c d ea eb ec ed)

fails_5 : (a b c d f : Text) (rest : List Text) → is_word a ≡ true → is_word b ≡ true → is_word c ≡ true → is_word d ≡ true → is_word f ≡ true → fault_of line (a ∷ b ∷ c ∷ d ∷ f ∷ rest) ≡ UnknownArgument ∷ []
fails_5 a b c d f rest ea eb ec ed ef =
    split (a ∷ b ∷ c ∷ d ∷ f ∷ rest)
    ∙ ap (λ (ks : Kinds). or_else ks (behind (walks start (a ∷ b ∷ c ∷ d ∷ f ∷ rest)))) (goes_1 a (b ∷ c ∷ d ∷ f ∷ rest) ea ∙ goes_2 a b (c ∷ d ∷ f ∷ rest) eb ∙ goes_3 a b c (d ∷ f ∷ rest) ec ∙ goes_4 a b c d (f ∷ rest) ed ∙ stray a b c d f rest ef)

-- WHAT IS FOUND
abbrev pub places_in : List Row → Option Places
places_in rows = places_found (first_of (codes "IMAGE") rows) (first_of (codes "COMMAND") rows) (first_of (codes "THIRD") rows) (first_of (codes "FOURTH") rows)

-- the getters read the rows
pub places_are : (f : Found) → places_found (first_value f (codes "IMAGE")) (first_value f (codes "COMMAND")) (first_value f (codes "THIRD")) (first_value f (codes "FOURTH")) ≡ places_in (rows_of f)
places_are f = rw (first_value-rows f (codes "IMAGE"), first_value-rows f (codes "COMMAND"), first_value-rows f (codes "THIRD"), first_value-rows f (codes "FOURTH")) refl

found_2 : (a b : Text) → is_word a ≡ true → is_word b ≡ true → places_in (matches_of line (a ∷ b ∷ [])) ≡ places_of (a ∷ b ∷ [])
found_2 a b ea eb = ap (λ (w : Walk). places_in (finished rules w.held)) (walk_2 a b ea eb)

found_3 : (a b c : Text) → is_word a ≡ true → is_word b ≡ true → is_word c ≡ true → places_in (matches_of line (a ∷ b ∷ c ∷ [])) ≡ places_of (a ∷ b ∷ c ∷ [])
found_3 a b c ea eb ec = ap (λ (w : Walk). places_in (finished rules w.held)) (walk_3 a b c ea eb ec)

found_4 : (a b c d : Text) → is_word a ≡ true → is_word b ≡ true → is_word c ≡ true → is_word d ≡ true → places_in (matches_of line (a ∷ b ∷ c ∷ d ∷ [])) ≡ places_of (a ∷ b ∷ c ∷ d ∷ [])
found_4 a b c d ea eb ec ed = ap (λ (w : Walk). places_in (finished rules w.held)) (walk_4 a b c d ea eb ec ed)

-- ANY WORDS
one : (b c : Bool) → (b && c) ≡ true → b ≡ true
one true c e = refl
one false c e = e

others : (b c : Bool) → (b && c) ≡ true → c ≡ true
others true c e = e
others false c e = absurd (true≢false (sym e))

some_kind : (k : ErrorKind) (ks kinds : Kinds) → kinds ≡ k ∷ ks → kinds ≡ [] → ⊥
some_kind k ks kinds e none = cc

-- where the parse fails nowhere, it found the words by their places
pub found : (words : List Text) → are_words words ≡ true → fault_of line words ≡ [] → places_in (matches_of line words) ≡ places_of words
found [] e none = absurd (some_kind _ _ _ fails_0 none)
found (a ∷ []) e none = absurd (some_kind _ _ _ (fails_1 a (one _ _ e)) none)
found (a ∷ b ∷ []) e none = found_2 a b (one _ _ e) (one _ _ (others _ _ e))
found (a ∷ b ∷ c ∷ []) e none = found_3 a b c (one _ _ e) (one _ _ (others _ _ e)) (one _ _ (others _ _ (others _ _ e)))
found (a ∷ b ∷ c ∷ d ∷ []) e none =
    let e2 = others (is_word a) _ e in
    let e3 = others (is_word b) _ e2 in
    let e4 = others (is_word c) _ e3 in
    found_4 a b c d (one _ _ e) (one _ _ e2) (one _ _ e3) (one _ _ e4)
found (a ∷ b ∷ c ∷ d ∷ f ∷ rest) e none =
    let e2 = others (is_word a) _ e in
    let e3 = others (is_word b) _ e2 in
    let e4 = others (is_word c) _ e3 in
    let e5 = others (is_word d) _ e4 in
    absurd (some_kind _ _ _ (fails_5 a b c d f rest (one _ _ e) (one _ _ e2) (one _ _ e3) (one _ _ e4) (one _ _ e5)) none)

is_none : (k : ErrorKind) (kinds : Kinds) → kinds ≡ [] → IsAmong k kinds → ⊥
is_none k [] e among = among
is_none k (x ∷ xs) e among = some_kind x xs (x ∷ xs) refl e

-- where it fails, they are fewer or more
pub refused : (words : List Text) (k : ErrorKind) → are_words words ≡ true → IsAmong k (fault_of line words) → None ≡ places_of words
refused [] k e among = refl
refused (a ∷ []) k e among = refl
refused (a ∷ b ∷ []) k e among = absurd (is_none k _ (passes_2 a b (one _ _ e) (one _ _ (others _ _ e))) among)
refused (a ∷ b ∷ c ∷ []) k e among =
    absurd (is_none k _ (passes_3 a b c (one _ _ e) (one _ _ (others _ _ e)) (one _ _ (others _ _ (others _ _ e)))) among)
refused (a ∷ b ∷ c ∷ d ∷ []) k e among =
    let e2 = others (is_word a) _ e in
    let e3 = others (is_word b) _ e2 in
    let e4 = others (is_word c) _ e3 in
    absurd (is_none k _ (passes_4 a b c d (one _ _ e) (one _ _ e2) (one _ _ e3) (one _ _ e4)) among)
refused (a ∷ b ∷ c ∷ d ∷ f ∷ rest) k e among = refl
