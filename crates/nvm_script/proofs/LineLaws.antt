-- The caller is read exactly where the line names one.
use Rattle.std.proofs.Common.{◌≡◌, ◌≤◌, ◌<◌, ◌^◌, ◌==◌, ℕ, Bool, true, false, List, [], ◌∷◌, ◌++◌, length, get_or, IfSome, Option, Some, None, refl, sym, ap, ◌∙◌, subst, arith, append-nil, if◌then◌else◌}
use Rattle.std.proofs.lemmas.Bool.{and_parts, eqb-true, eq-eqb}
use Rattle.std.proofs.lemmas.Option.{option_and_then_some}
use Rattle.std.specs.Char.{is_ascii_digit}
use Rattle.std.specs.Fmt.{decimal}
use Rattle.std.proofs.lemmas.Fmt.{decimal_nonempty, digits_decimal}
use Rattle.std.specs.List.{list_all}
use Rattle.std.specs.Option.{option_and_then, is_some, unwrap_or}
use Rattle.block_config.specs.Config.{Configuration}
use Rattle.nvm_script.specs.declared.script.Mode.{Mode}
use Rattle.nvm_script.specs.declared.step.StepKind.{StepKind}
use Rattle.nvm_script.specs.Rules.{settled}
use Rattle.nvm_script.specs.Step.{IsStep}
use Rattle.nvm_script.proofs.RuleLaws.{settled-complete}
use Rattle.nvm_script.proofs.SpellingLaws.{read_as, spelled-complete}
use Rattle.nvm_script.specs.declared.word.Word.{Word}
use Rattle.nvm_script.specs.declared.word.Word.TheVariants.{Read}
use Rattle.nvm_script.specs.Cut.{cut_at}
use Rattle.nvm_script.specs.Line.{IsIdle, IsCalled, IsStepLine, begins_with_digit, caller_before, called_of}
use Rattle.nv_base.specs.Decimal.{decimal_number_of}
use Rattle.nvm_script.specs.Reading.{with_fields, spelled}
use Rattle.nvm_script.specs.Word.{word_text, word_of}
use Rattle.nvm_script.proofs.Cuts.{Joins, cut_at-joins, cut_at-append}
use Rattle.nvm_script.proofs.Numerals.{model, differs, decimal_number_of-spelled, decimal_number_of-decimal, decimal-lacks}
use Rattle.nvm_script.proofs.WordLaws.{word_of-found}

small : (n : ℕ) → n ≤ 15 → n < 2 ^ 64
small n le = omega arith

-- the line is as it was read
abbrev IsSound : Option (Option ℕ × List ℕ) → List ℕ → Type 0
IsSound o line = IfSome o (λ x. IsCalled x.0 x.1 line)

space_sound : (caller : ℕ) (line front : List ℕ) (b : ℕ) (bs : List ℕ) (t : Bool) → (b == 32) ≡ t → caller ≤ 15 → front ≡ decimal caller → line ≡ front ++ 58 ∷ (b ∷ bs) → IsSound (if t then Some (Some caller, bs) else None) line
space_sound caller line front b bs true is le e joins =
    (le, joins ∙ ap (λ (l : List ℕ). l ++ 58 ∷ (b ∷ bs)) e ∙ ap (λ (n : ℕ). decimal caller ++ 58 ∷ (n ∷ bs)) (eqb-true b 32 is))
space_sound caller line front b bs false is le e joins = tt

before_sound : (caller : ℕ) (line front : List ℕ) (rest : Option (List ℕ)) → caller ≤ 15 → front ≡ decimal caller → Joins 58 line front rest → IsSound (caller_before caller rest) line
before_sound caller line front None le e joins = tt
before_sound caller line front (Some []) le e joins = tt
before_sound caller line front (Some (b ∷ bs)) le e joins = space_sound caller line front b bs (b == 32) refl le e joins

bind_sound : (P : ℕ → Type 0) (o : Option ℕ) (f : ℕ → Option (Option ℕ × List ℕ)) (line : List ℕ) → IfSome o P → ((x : ℕ) → P x → IsSound (f x) line) → IsSound (option_and_then f o) line
bind_sound P None f line has each = tt
bind_sound P (Some x) f line has each = each x has

by_digit : (line : List ℕ) (b : Bool) → IsSound (if b then option_and_then (λ caller. caller_before caller (cut_at 58 line).1) (decimal_number_of 0 15 (cut_at 58 line).0) else Some (None, line)) line
by_digit line true =
    bind_sound (λ n. (0 ≤ n) × (n ≤ 15) × ((cut_at 58 line).0 ≡ decimal n)) (decimal_number_of 0 15 (cut_at 58 line).0) (λ caller. caller_before caller (cut_at 58 line).1) line (decimal_number_of-spelled 0 15 (cut_at 58 line).0 (small 15 (omega arith)))
    (λ n is. before_sound n line (cut_at 58 line).0 (cut_at 58 line).1 is.1 is.2 (cut_at-joins 58 line))
by_digit line false = refl

pub called_of-sound : (line : List ℕ) → IsSound (called_of line) line
unfolding called_of
called_of-sound line = by_digit line (begins_with_digit line)

-- what a test says of each word, whatever follows it, it says of the text of a step
joined_tested : (test : List ℕ → Bool) → ((w : Word) (rest : List ℕ) → test (word_text w ++ rest) ≡ false) → (w : Word) (text front : List ℕ) (rest : Option (List ℕ)) → front ≡ word_text w → Joins 32 text front rest → test text ≡ false
joined_tested test words w text front None e joins = ap test (joins ∙ e ∙ sym (append-nil (word_text w))) ∙ words w []
joined_tested test words w text front (Some rest) e joins = ap test (joins ∙ ap (λ (l : List ℕ). l ++ 32 ∷ rest) e) ∙ words w (32 ∷ rest)

spelled-tested : (test : List ℕ → Bool) → ((w : Word) (rest : List ℕ) → test (word_text w ++ rest) ≡ false) → (text : List ℕ) (kind : StepKind) → spelled text ≡ Some kind → test text ≡ false
unfolding spelled
spelled-tested test words text kind e =
    option_and_then_some (λ w. with_fields w (cut_at 32 text).1) (word_of (cut_at 32 text).0) kind e (λ w found _.
    joined_tested test words w text (cut_at 32 text).0 (cut_at 32 text).1 (subst (λ (o : Option Word). IfSome o (λ w. (cut_at 32 text).0 ≡ word_text w)) found (word_of-found (cut_at 32 text).0)) (cut_at-joins 32 text))

-- a step begins with a letter
word_begins : (w : Word) (rest : List ℕ) → begins_with_digit (word_text w ++ rest) ≡ false
word_begins Read rest = refl
word_begins _ rest = refl

-- a number begins with a digit
digits_begin : (ds rest : List ℕ) → list_all is_ascii_digit ds ≡ true → 0 < length ds → begins_with_digit (ds ++ rest) ≡ true
digits_begin [] rest digits some = absurd (omega arith)
digits_begin (d ∷ ds) rest digits some = (and_parts (is_ascii_digit d) (list_all is_ascii_digit ds) digits).0

named : (caller : ℕ) (text : List ℕ) → caller ≤ 15 → called_of (decimal caller ++ 58 ∷ (32 ∷ text)) ≡ Some (Some caller, text)
unfolding called_of
named caller text le =
    let fits = small caller le in
    rw (digits_begin (decimal caller) (58 ∷ (32 ∷ text)) (digits_decimal model caller fits) (decimal_nonempty caller fits), cut_at-append 58 (decimal caller) (32 ∷ text) (decimal-lacks 58 caller refl fits), decimal_number_of-decimal 0 15 caller (omega arith) le (small 15 (omega arith))) refl

pub called_of-complete : (called : Option ℕ) (text line : List ℕ) → IsCalled called text line → begins_with_digit text ≡ false → called_of line ≡ Some (called, text)
unfolding called_of
called_of-complete None text line is letter = ap called_of is ∙ rw letter refl
called_of-complete (Some caller) text line is letter = ap called_of is.1 ∙ named caller text is.0

-- a line that begins as no idle one does
abbrev begins_idle : List ℕ → Bool
begins_idle [] = true
begins_idle (b ∷ bs) = b == 35

not_idle : (line : List ℕ) → begins_idle line ≡ false → ¬ IsIdle line
not_idle [] begins idle = cc
not_idle (b ∷ bs) begins idle = let same : (b == 35) ≡ true = eq-eqb b 35 idle in cc

word_active : (w : Word) (rest : List ℕ) → begins_idle (word_text w ++ rest) ≡ false
word_active Read rest = refl
word_active _ rest = refl

digits_active : (ds rest : List ℕ) → list_all is_ascii_digit ds ≡ true → 0 < length ds → begins_idle (ds ++ rest) ≡ false
digits_active [] rest digits some = absurd (omega arith)
digits_active (d ∷ ds) rest digits some = differs d 35 (d == 35) refl (and_parts (is_ascii_digit d) (list_all is_ascii_digit ds) digits).0 refl

called_active : (called : Option ℕ) (text line : List ℕ) → IsCalled called text line → begins_idle text ≡ false → begins_idle line ≡ false
called_active None text line is active = ap begins_idle is ∙ active
called_active (Some caller) text line is active =
    let fits = small caller is.0 in
    ap begins_idle is.1 ∙ digits_active (decimal caller) (58 ∷ (32 ∷ text)) (digits_decimal model caller fits) (decimal_nonempty caller fits)

same_pair : (a b : Option ℕ × List ℕ) → Some a ≡ Some b → (a.0 ≡ b.0) × (a.1 ≡ b.1)
same_pair a b e = let p : a ≡ b = cc in (ap (λ (q : Option ℕ × List ℕ). q.0) p, ap (λ (q : Option ℕ × List ℕ). q.1) p)

step_called : (c : Configuration) (mode : Mode) (line : List ℕ) (caller : ℕ) (kind : StepKind) (is : IsStepLine c mode line caller kind) → called_of line ≡ Some (is.0, is.1)
step_called c mode line caller kind is = called_of-complete is.0 is.1 line is.2 (spelled-tested begins_with_digit word_begins is.1 (read_as kind) (spelled-complete kind is.1 is.3.0))

-- how a step's line is read: its caller, its text, and the step
pub record IsReadSo (c : Configuration) (mode : Mode) (line : List ℕ) (caller : ℕ) (kind : StepKind) : Type 0 where
  pub called : Option ℕ
  pub text : List ℕ
  pub caller_read : called_of line ≡ Some (called, text)
  pub text_read : spelled text ≡ Some (read_as kind)
  pub settled_so : settled c mode (is_some called) (read_as kind) ≡ Some kind
  pub caller_is : caller ≡ unwrap_or called 0
  pub active : begins_idle line ≡ false

pub IsReadSo-step : (c : Configuration) (mode : Mode) (line : List ℕ) (caller : ℕ) (kind : StepKind) → IsStepLine c mode line caller kind → IsReadSo c mode line caller kind
IsReadSo-step c mode line caller kind is =
    let spells : spelled is.1 ≡ Some (read_as kind) = spelled-complete kind is.1 is.3.0 in
    record {
      called = is.0;
      text = is.1;
      caller_read = called_of-complete is.0 is.1 line is.2 (spelled-tested begins_with_digit word_begins is.1 (read_as kind) spells);
      text_read = spells;
      settled_so = settled-complete c mode (is_some is.0) kind is.3.1;
      caller_is = is.4;
      active = called_active is.0 is.1 line is.2 (spelled-tested begins_idle word_active is.1 (read_as kind) spells);
    }

-- an idle line is no step
pub idle_or_step : (c : Configuration) (mode : Mode) (line : List ℕ) (caller : ℕ) (kind : StepKind) → IsIdle line → IsStepLine c mode line caller kind → ⊥
idle_or_step c mode line caller kind idle is = not_idle line (IsReadSo-step c mode line caller kind is).active idle

-- a line is one step
pub one_step : (c : Configuration) (mode : Mode) (line : List ℕ) (a b : ℕ) (kind other : StepKind) → IsStepLine c mode line a kind → IsStepLine c mode line b other → (a ≡ b) × (kind ≡ other)
one_step c mode line a b kind other one two =
    let x = IsReadSo-step c mode line a kind one in
    let y = IsReadSo-step c mode line b other two in
    let same = same_pair (x.called, x.text) (y.called, y.text) (sym x.caller_read ∙ y.caller_read) in
    let same_called : x.called ≡ y.called = same.0 in
    let same_text : x.text ≡ y.text = same.1 in
    let same_read : read_as kind ≡ read_as other = cc (x.text_read, y.text_read, same_text) in
    (cc (x.caller_is, y.caller_is, same_called), cc (x.settled_so, y.settled_so, same_called, same_read))

-- where no caller was read, or no step, the line is none
pub no_caller : (c : Configuration) (mode : Mode) (line : List ℕ) → called_of line ≡ None → (caller : ℕ) (kind : StepKind) → IsStepLine c mode line caller kind → ⊥
no_caller c mode line none caller kind is = let x = IsReadSo-step c mode line caller kind is in cc (x.caller_read, none)

pub no_step : (c : Configuration) (mode : Mode) (line text : List ℕ) (called : Option ℕ) → called_of line ≡ Some (called, text) → ((kind : StepKind) → IsStep c mode (is_some called) text kind → ⊥) → (caller : ℕ) (kind : StepKind) → IsStepLine c mode line caller kind → ⊥
no_step c mode line text called reads none caller kind is =
    let same = same_pair (is.0, is.1) (called, text) (sym (step_called c mode line caller kind is) ∙ reads) in
    let same_called : is.0 ≡ called = same.0 in
    let same_text : is.1 ≡ text = same.1 in
    none kind (subst (λ (l : List ℕ). IsStep c mode (is_some called) l kind) same_text (subst (λ (o : Option ℕ). IsStep c mode (is_some o) is.1 kind) same_called is.3))

pub IsCalled-read : (line text : List ℕ) (called : Option ℕ) → called_of line ≡ Some (called, text) → IsCalled called text line
IsCalled-read line text called reads = subst (λ (o : Option (Option ℕ × List ℕ)). IsSound o line) reads (called_of-sound line)

pub busy : (line : List ℕ) → (get_or line 0 0 ≡ 35 → ⊥) → (length line == 0) ≡ false → ¬ IsIdle line
busy [] other some idle = cc
busy (b ∷ bs) other some idle = other idle
