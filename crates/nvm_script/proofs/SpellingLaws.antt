-- What is read is spelled so, and what is spelled so is read.
use Rattle.std.proofs.Common.{◌≡◌, ◌≤◌, ◌<◌, ◌^◌, ◌==◌, ℕ, zero, suc, Bool, true, false, List, ◌∷◌, ◌++◌, IfSome, Option, Some, None, refl, sym, ap, ◌∙◌, arith, rules}
use Rattle.std.specs.Option.{option_and_then, option_map}
use Rattle.std.specs.Fmt.{decimal}
use Rattle.std.proofs.lemmas.Fmt.{decimal_digit}
use Rattle.nv_base.specs.declared.request.Request.{Request}
use Rattle.nv_base.specs.declared.request.Request.TheVariants as request
use Rattle.block_config.specs.Content.{content_of}
use Rattle.nvm_script.specs.declared.step.StepKind.{StepKind}
use Rattle.nvm_script.specs.declared.step.StepKind.TheVariants as step
use Rattle.nvm_script.specs.declared.word.Word.{Word}
use Rattle.nvm_script.specs.declared.word.Word.TheVariants.{Read, ReadRam, Write, WriteRam, Restore, RestoreRam, Erase, Invalidate, SetIndex, GetIndex, Protect, Lock, SetRam, Ram, Status, ReadAll, WriteAll, Cancel, Turn, Drain, Restart, Cut, CutSecond, Refuse, Await}
use Rattle.nvm_script.specs.Cut.{cut_at}
use Rattle.nv_base.specs.Decimal.{decimal_number_of}
use Rattle.nvm_script.specs.Word.{word_text, word_of}
use Rattle.nvm_script.specs.Words.{of_block_with as block_text_with, switch_text}
use Rattle.nvm_script.specs.Reading.{without_fields, of_block, with_one, with_number, with_content, of_block_with, cut_place, with_two, with_field, with_fields, spelled}
use Rattle.nvm_script.specs.Spelling.{OfBlock, SpellsRequest, Spells}
use Rattle.nvm_script.specs.Values.{IsBlockNumber}
use Rattle.nvm_script.proofs.Cuts.{Joins, cut_at-joins, cut_at-append, cut_at-lacks}
use Rattle.nvm_script.proofs.Numerals.{decimal_number_of-spelled, decimal_number_of-decimal, decimal-lacks}
use Rattle.nvm_script.proofs.WordLaws.{word_of-word_text, word_text-lacks, word_of-found}

-- a word, a block and one field more
abbrev pub OfBlockWith : Word → ℕ → List ℕ → List ℕ → Type 0
OfBlockWith w block field text = IsBlockNumber block × (text ≡ block_text_with (word_text w) block field)

-- a step that was read, if one was, is spelled by the text
abbrev pub IsSound : Option StepKind → List ℕ → Type 0
IsSound o text = IfSome o (λ kind. Spells kind text)

bind_sound : {A : Type 0} (P : A → Type 0) (o : Option A) (f : A → Option StepKind) (text : List ℕ) → IfSome o P → ((x : A) → P x → IsSound (f x) text) → IsSound (option_and_then f o) text
bind_sound P None f text has each = tt
bind_sound P (Some x) f text has each = each x has

map_sound : {A : Type 0} (P : A → Type 0) (o : Option A) (f : A → StepKind) (text : List ℕ) → IfSome o P → ((x : A) → P x → Spells (f x) text) → IsSound (option_map f o) text
map_sound P None f text has each = tt
map_sound P (Some x) f text has each = each x has

alone_sound : (w : Word) (text : List ℕ) → text ≡ word_text w → IsSound (without_fields w) text
alone_sound ReadAll text e = (tt, e)
alone_sound WriteAll text e = (tt, e)
alone_sound Cancel text e = (tt, e)
alone_sound Drain text e = e
alone_sound Restart text e = e
alone_sound _ text e = tt

block_sound : (w : Word) (block : ℕ) (text : List ℕ) → OfBlock (word_text w) block text → IsSound (of_block w block) text
block_sound WriteRam block text is = (refl, is)
block_sound _ block text is = search rules

-- what a number was read from
abbrev pub IsNumber : ℕ → ℕ → List ℕ → ℕ → Type 0
IsNumber low high text n = (low ≤ n) × (n ≤ high) × (text ≡ decimal n)

small : (n : ℕ) → n ≤ 1000000 → n < 2 ^ 64
small n le = omega arith

one_block : (w : Word) (field text : List ℕ) → text ≡ word_text w ++ 32 ∷ field → IsSound (option_and_then (of_block w) (decimal_number_of 0 65535 field)) text
one_block w field text e =
    bind_sound (IsNumber 0 65535 field) (decimal_number_of 0 65535 field) (of_block w) text (decimal_number_of-spelled 0 65535 field (small 65535 (omega arith))) (λ b is. block_sound w b text (is.1, e ∙ ap (λ (l : List ℕ). word_text w ++ 32 ∷ l) is.2))

one_sound : (w : Word) (field text : List ℕ) → text ≡ word_text w ++ 32 ∷ field → IsSound (with_one w field) text
one_sound Turn field text e =
    map_sound (IsNumber 1 100000 field) (decimal_number_of 1 100000 field) (λ n. step.Turn n) text (decimal_number_of-spelled 1 100000 field (small 100000 (omega arith))) (λ n is. (is.0, is.1, e ∙ ap (λ (l : List ℕ). word_text Turn ++ 32 ∷ l) is.2))
one_sound w field text e = one_block w field text e

switch-decimal : (n : ℕ) → n ≤ 1 → decimal n ≡ switch_text (n == 1)
switch-decimal zero le = decimal_digit 0 (omega arith)
switch-decimal (suc zero) le = decimal_digit 1 (omega arith)
switch-decimal (suc (suc n)) le = absurd (omega arith)

-- the field behind a block is this text
field_is : (w : Word) (block : ℕ) (field field' text : List ℕ) → OfBlockWith w block field text → field ≡ field' → OfBlockWith w block field' text
field_is w block field field' text is e = (is.0, is.1 ∙ ap (λ (l : List ℕ). block_text_with (word_text w) block l) e)

switch_is : (w : Word) (block n : ℕ) (field text : List ℕ) → OfBlockWith w block field text → IsNumber 0 1 field n → OfBlockWith w block (switch_text (n == 1)) text
switch_is w block n field text is number = field_is w block field (switch_text (n == 1)) text is (number.2 ∙ switch-decimal n number.1)

number_sound : (w : Word) (block : ℕ) (field text : List ℕ) → OfBlockWith w block field text → IsSound (with_number w block field) text
number_sound SetIndex block field text is =
    map_sound (IsNumber 0 255 field) (decimal_number_of 0 255 field) (λ i. step.Ask (request.SetIndex block i)) text (decimal_number_of-spelled 0 255 field (small 255 (omega arith))) (λ i number. let spelled_so = field_is SetIndex block field (decimal i) text is number.2 in ((spelled_so.0, number.1), spelled_so.1))
number_sound Protect block field text is =
    map_sound (IsNumber 0 1 field) (decimal_number_of 0 1 field) (λ n. step.Ask (request.SetProtection block (n == 1))) text (decimal_number_of-spelled 0 1 field (small 1 (omega arith))) (λ n number. switch_is Protect block n field text is number)
number_sound Lock block field text is =
    map_sound (IsNumber 0 1 field) (decimal_number_of 0 1 field) (λ n. step.Ask (request.SetLock block (n == 1))) text (decimal_number_of-spelled 0 1 field (small 1 (omega arith))) (λ n number. switch_is Lock block n field text is number)
number_sound SetRam block field text is =
    map_sound (IsNumber 0 1 field) (decimal_number_of 0 1 field) (λ n. step.Ask (request.SetRam block (n == 1))) text (decimal_number_of-spelled 0 1 field (small 1 (omega arith))) (λ n number. switch_is SetRam block n field text is number)
number_sound Refuse block field text is =
    map_sound (IsNumber 1 1000 field) (decimal_number_of 1 1000 field) (λ n. step.Refuse block n) text (decimal_number_of-spelled 1 1000 field (small 1000 (omega arith))) (λ n number. let spelled_so = field_is Refuse block field (decimal n) text is number.2 in (number.0, number.1, spelled_so.0, spelled_so.1))
number_sound _ block field text is = tt

itself : {A : Type 0} (o : Option A) → IfSome o (λ x. o ≡ Some x)
itself None = tt
itself (Some x) = refl

ram_sound : (block : ℕ) (field text : List ℕ) → OfBlockWith Ram block field text → IsSound (with_content Ram block field) text
ram_sound block field text is =
    map_sound (λ content. content_of field ≡ Some content) (content_of field) (λ content. step.Ask (request.PutRam block content)) text (itself (content_of field)) (λ content e. (field, e, is.0, is.1))

write_sound : (block : ℕ) (field text : List ℕ) → OfBlockWith Write block field text → IsSound (with_content Write block field) text
write_sound block field text is =
    map_sound (λ content. content_of field ≡ Some content) (content_of field) (λ content. step.Ask (request.Write block (Some content) 0)) text (itself (content_of field)) (λ content e. (refl, (field, e, is.0, is.1)))

with_sound : (w : Word) (block : ℕ) (field text : List ℕ) → OfBlockWith w block field text → IsSound (of_block_with w block field) text
with_sound Write block field text is = write_sound block field text is
with_sound Ram block field text is = ram_sound block field text is
with_sound w block field text is = number_sound w block field text is

two_block : (w : Word) (first second text : List ℕ) → text ≡ word_text w ++ 32 ∷ (first ++ 32 ∷ second) → IsSound (option_and_then (λ block. of_block_with w block second) (decimal_number_of 0 65535 first)) text
two_block w first second text e =
    bind_sound (IsNumber 0 65535 first) (decimal_number_of 0 65535 first) (λ block. of_block_with w block second) text (decimal_number_of-spelled 0 65535 first (small 65535 (omega arith))) (λ b is. with_sound w b second text (is.1, e ∙ ap (λ (l : List ℕ). word_text w ++ 32 ∷ (l ++ 32 ∷ second)) is.2))

-- a planned cut is spelled by a word, and what its place was read from
cut_sound : (w : Word) (plan : ℕ → ℕ → StepKind) (first second text : List ℕ)
    → ((nth keep : ℕ) → (1 ≤ nth) × (nth ≤ 1000000) × (keep ≤ 256) × (text ≡ word_text w ++ 32 ∷ (decimal nth ++ 32 ∷ decimal keep)) → Spells (plan nth keep) text)
    → text ≡ word_text w ++ 32 ∷ (first ++ 32 ∷ second) → IsSound (option_map (λ (at : ℕ × ℕ). plan at.0 at.1) (cut_place first second)) text
cut_sound w plan first second text spells e =
    placed (decimal_number_of 1 1000000 first) (decimal_number_of 0 256 second) (decimal_number_of-spelled 1 1000000 first (small 1000000 (omega arith))) (decimal_number_of-spelled 0 256 second (small 256 (omega arith)))
  where
    placed : (n k : Option ℕ) → IfSome n (IsNumber 1 1000000 first) → IfSome k (IsNumber 0 256 second) → IsSound (option_map (λ (at : ℕ × ℕ). plan at.0 at.1) (option_and_then (λ nth. option_map (λ keep. (nth, keep)) k) n)) text
    placed None k nth keep = tt
    placed (Some n) None nth keep = tt
    placed (Some n) (Some k) nth keep =
        spells n k (nth.0, nth.1, keep.1, e ∙ ap (λ (l : List ℕ). word_text w ++ 32 ∷ (l ++ 32 ∷ second)) nth.2 ∙ ap (λ (l : List ℕ). word_text w ++ 32 ∷ (decimal n ++ 32 ∷ l)) keep.2)

two_sound : (w : Word) (first second text : List ℕ) → text ≡ word_text w ++ 32 ∷ (first ++ 32 ∷ second) → IsSound (with_two w first second) text
two_sound Cut first second text e = cut_sound Cut step.Cut first second text (λ nth keep is. is) e
two_sound CutSecond first second text e = cut_sound CutSecond step.CutSecond first second text (λ nth keep is. is) e
two_sound w first second text e = two_block w first second text e

field_sound : (w : Word) (text fields first : List ℕ) (second : Option (List ℕ)) → text ≡ word_text w ++ 32 ∷ fields → Joins 32 fields first second → IsSound (with_field w first second) text
field_sound w text fields first None e joins = one_sound w first text (e ∙ ap (λ (l : List ℕ). word_text w ++ 32 ∷ l) joins)
field_sound w text fields first (Some second) e joins = two_sound w first second text (e ∙ ap (λ (l : List ℕ). word_text w ++ 32 ∷ l) joins)

fields_sound : (w : Word) (text front : List ℕ) (rest : Option (List ℕ)) → front ≡ word_text w → Joins 32 text front rest → IsSound (with_fields w rest) text
fields_sound w text front None e joins = alone_sound w text (joins ∙ e)
fields_sound w text front (Some fields) e joins =
    field_sound w text fields (cut_at 32 fields).0 (cut_at 32 fields).1 (joins ∙ ap (λ (l : List ℕ). l ++ 32 ∷ fields) e) (cut_at-joins 32 fields)

-- what is read is spelled by the text
pub spelled-sound : (text : List ℕ) → IsSound (spelled text) text
unfolding spelled
spelled-sound text =
    bind_sound (λ w. (cut_at 32 text).0 ≡ word_text w) (word_of (cut_at 32 text).0) (λ w. with_fields w (cut_at 32 text).1) text (word_of-found (cut_at 32 text).0) (λ w e. fields_sound w text (cut_at 32 text).0 (cut_at 32 text).1 e (cut_at-joins 32 text))

-- the step as it is read: a store is read as a request
abbrev pub read_as : StepKind → StepKind
read_as (step.Store block content) = step.Ask (request.PutRam block content)
read_as kind = kind

-- reading goes by the text's first cut
after_cut : List ℕ × Option (List ℕ) → Option StepKind
after_cut p = option_and_then (λ w. with_fields w p.1) (word_of p.0)

spelled_cut : (text front : List ℕ) (rest : Option (List ℕ)) (w : Word) → cut_at 32 text ≡ (front, rest) → front ≡ word_text w → spelled text ≡ with_fields w rest
unfolding spelled after_cut
spelled_cut text front rest w cut e =
    ap after_cut cut ∙ ap (λ (l : List ℕ). option_and_then (λ w. with_fields w rest) (word_of l)) e ∙ ap (λ (o : Option Word). option_and_then (λ w. with_fields w rest) o) (word_of-word_text w)

alone_read : (w : Word) (text : List ℕ) → text ≡ word_text w → spelled text ≡ without_fields w
alone_read w text e = ap spelled e ∙ spelled_cut (word_text w) (word_text w) None w (cut_at-lacks 32 (word_text w) (word_text-lacks w)) refl

fields_read : (w : Word) (fields : List ℕ) → spelled (word_text w ++ 32 ∷ fields) ≡ with_field w (cut_at 32 fields).0 (cut_at 32 fields).1
fields_read w fields = spelled_cut (word_text w ++ 32 ∷ fields) (word_text w) (Some fields) w (cut_at-append 32 (word_text w) fields (word_text-lacks w)) refl

one_read : (w : Word) (n : ℕ) → n ≤ 1000000 → spelled (word_text w ++ 32 ∷ decimal n) ≡ with_one w (decimal n)
one_read w n le = fields_read w (decimal n) ∙ ap (λ (p : List ℕ × Option (List ℕ)). with_field w p.0 p.1) (cut_at-lacks 32 (decimal n) (decimal-lacks 32 n refl (small n le)))

two_read : (w : Word) (n : ℕ) (second : List ℕ) → n ≤ 1000000 → spelled (word_text w ++ 32 ∷ (decimal n ++ 32 ∷ second)) ≡ with_two w (decimal n) second
two_read w n second le =
    fields_read w (decimal n ++ 32 ∷ second) ∙ ap (λ (p : List ℕ × Option (List ℕ)). with_field w p.0 p.1) (cut_at-append 32 (decimal n) second (decimal-lacks 32 n refl (small n le)))

block_number : (block : ℕ) → block ≤ 65535 → decimal_number_of 0 65535 (decimal block) ≡ Some block
block_number block le = decimal_number_of-decimal 0 65535 block (omega arith) le (small 65535 (omega arith))

block_read : (w : Word) (block : ℕ) (text : List ℕ) → OfBlock (word_text w) block text → with_one w (decimal block) ≡ option_and_then (of_block w) (decimal_number_of 0 65535 (decimal block)) → spelled text ≡ of_block w block
block_read w block text is e =
    ap spelled is.1 ∙ one_read w block (omega (arith, is.0)) ∙ e ∙ ap (λ (o : Option ℕ). option_and_then (of_block w) o) (block_number block is.0)

with_read : (w : Word) (block : ℕ) (field text : List ℕ) → OfBlockWith w block field text → with_two w (decimal block) field ≡ option_and_then (λ b. of_block_with w b field) (decimal_number_of 0 65535 (decimal block)) → spelled text ≡ of_block_with w block field
with_read w block field text is e =
    ap spelled is.1 ∙ two_read w block field (omega (arith, is.0)) ∙ e ∙ ap (λ (o : Option ℕ). option_and_then (λ b. of_block_with w b field) o) (block_number block is.0)

switch_number : (on : Bool) → (n : ℕ) × (decimal_number_of 0 1 (switch_text on) ≡ Some n) × ((n == 1) ≡ on)
unfolding decimal_number_of
switch_number true = (1, refl, refl)
switch_number false = (0, refl, refl)

switched : (f : Bool → StepKind) (on : Bool) → option_map (λ n. f (n == 1)) (decimal_number_of 0 1 (switch_text on)) ≡ Some (f on)
switched f on =
    let n = switch_number on in
    ap (λ (o : Option ℕ). option_map (λ n. f (n == 1)) o) n.1 ∙ ap (λ (b : Bool). Some (f b)) n.2

request_read : (asked : Request) (text : List ℕ) → SpellsRequest asked text → spelled text ≡ Some (step.Ask asked)
request_read (request.Read block false) text is = block_read Read block text is refl
request_read (request.Read block true) text is = block_read ReadRam block text is refl
request_read (request.Write block (Some content) store) text is =
    with_read Write block is.1.0 text (is.1.2, is.1.3) refl ∙ ap (λ (o : Option (List ℕ)). option_map (λ content. step.Ask (request.Write block (Some content) 0)) o) is.1.1 ∙ ap (λ (n : ℕ). Some (step.Ask (request.Write block (Some content) n))) (sym is.0)
request_read (request.Write block None store) text is = block_read WriteRam block text is.1 refl ∙ ap (λ (n : ℕ). Some (step.Ask (request.Write block None n))) (sym is.0)
request_read (request.Restore block false) text is = block_read Restore block text is refl
request_read (request.Restore block true) text is = block_read RestoreRam block text is refl
request_read (request.Erase block) text is = block_read Erase block text is refl
request_read (request.Invalidate block) text is = block_read Invalidate block text is refl
request_read (request.SetIndex block index) text is =
    with_read SetIndex block (decimal index) text (is.0.0, is.1) refl ∙ ap (λ (o : Option ℕ). option_map (λ i. step.Ask (request.SetIndex block i)) o) (decimal_number_of-decimal 0 255 index (omega arith) is.0.1 (small 255 (omega arith)))
request_read (request.GetIndex block) text is = block_read GetIndex block text is refl
request_read (request.SetProtection block on) text is = with_read Protect block (switch_text on) text is refl ∙ switched (λ on. step.Ask (request.SetProtection block on)) on
request_read (request.SetLock block on) text is = with_read Lock block (switch_text on) text is refl ∙ switched (λ on. step.Ask (request.SetLock block on)) on
request_read (request.SetRam block on) text is = with_read SetRam block (switch_text on) text is refl ∙ switched (λ on. step.Ask (request.SetRam block on)) on
request_read (request.PutRam block content) text is =
    with_read Ram block is.0 text (is.2, is.3) refl ∙ ap (λ (o : Option (List ℕ)). option_map (λ content. step.Ask (request.PutRam block content)) o) is.1
request_read (request.Status block) text is = block_read Status block text is refl
request_read request.ReadAll text is = alone_read ReadAll text is.1
request_read request.WriteAll text is = alone_read WriteAll text is.1
request_read request.CancelWriteAll text is = alone_read Cancel text is.1

-- the place of a cut
place_read : (nth keep : ℕ) → 1 ≤ nth → nth ≤ 1000000 → keep ≤ 256 → cut_place (decimal nth) (decimal keep) ≡ Some (nth, keep)
place_read nth keep some few least =
    ap (λ (o : Option ℕ). option_and_then (λ n. option_map (λ k. (n, k)) (decimal_number_of 0 256 (decimal keep))) o) (decimal_number_of-decimal 1 1000000 nth some few (small 1000000 (omega arith)))
    ∙ ap (λ (o : Option ℕ). option_map (λ k. (nth, k)) o) (decimal_number_of-decimal 0 256 keep (omega arith) least (small 256 (omega arith)))

-- what the text spells is read
pub spelled-complete : (kind : StepKind) (text : List ℕ) → Spells kind text → spelled text ≡ Some (read_as kind)
spelled-complete (step.Ask asked) text is = request_read asked text is
spelled-complete (step.Store block content) text is = request_read (request.PutRam block content) text is
spelled-complete (step.Turn count) text is =
    ap spelled is.2 ∙ one_read Turn count (omega (arith, is.1)) ∙ ap (λ (o : Option ℕ). option_map (λ n. step.Turn n) o) (decimal_number_of-decimal 1 100000 count is.0 is.1 (small 100000 (omega arith)))
spelled-complete step.Drain text is = alone_read Drain text is
spelled-complete step.Restart text is = alone_read Restart text is
spelled-complete (step.Cut nth keep) text is = ap spelled is.3 ∙ two_read Cut nth (decimal keep) is.1 ∙ ap (λ (o : Option (ℕ × ℕ)). option_map (λ (at : ℕ × ℕ). step.Cut at.0 at.1) o) (place_read nth keep is.0 is.1 is.2)
spelled-complete (step.CutSecond nth keep) text is = ap spelled is.3 ∙ two_read CutSecond nth (decimal keep) is.1 ∙ ap (λ (o : Option (ℕ × ℕ)). option_map (λ (at : ℕ × ℕ). step.CutSecond at.0 at.1) o) (place_read nth keep is.0 is.1 is.2)
spelled-complete (step.Refuse block count) text is =
    with_read Refuse block (decimal count) text (is.2, is.3) refl ∙ ap (λ (o : Option ℕ). option_map (λ n. step.Refuse block n) o) (decimal_number_of-decimal 1 1000 count is.0 is.1 (small 1000 (omega arith)))
spelled-complete (step.Await block) text is = block_read Await block text is refl
