-- The word that an entry changes.
use Rattle.std.specs.Prelude.{nat_lt, ◌==◌}
use Rattle.std.specs.Option.{option_and_then}
use Rattle.std.proofs.Common.{◌≡◌, ◌≢◌, ◌<◌, ℕ, Bool, true, false, if◌then◌else◌, Option, Some, None, refl, sym, ap, ◌∙◌, arith, ltb-true, eqb-true}
use Rattle.std.proofs.lemmas.Bool.{eqb-false}
use Rattle.nvm_core.specs.nv_base.Result.{code_of}
use Rattle.nvm_core.specs.block_machine.Words.{Pending, Accepted, Refused, StatusIs, IndexIs, Entry, Ask, Pick, Wrote, Post, Off, Found}
use Rattle.nvm_shared.specs.StatusWords.{off_word, word_count, told_at, told_by, pending_block, gives_by, gives, is_found, EntriesChangeOneWord}

-- BY WHAT IS TOLD
pub same : (word status : ℕ) → gives_by (Some (word, status)) word ≡ Some status
same word status = by (word == word) refl
  where
    by : (b : Bool) → (word == word) ≡ b → (if b then Some status else None) ≡ Some status
    by true is = refl
    by false is = absurd (eqb-false word word is refl)

apart : (word u status : ℕ) → u ≢ word → gives_by (Some (word, status)) u ≡ None
apart word u status not = by (word == u) refl
  where
    by : (b : Bool) → (word == u) ≡ b → (if b then Some status else None) ≡ None
    by true is = absurd (not (sym (eqb-true word u is)))
    by false is = refl

pub some_pair : (p q : ℕ × ℕ) → Some p ≡ Some q → p.0 ≡ q.0
some_pair p q is = let same : p ≡ q = cc in ap (λ (z : ℕ × ℕ). z.0) same

-- what is told, where its test came out so
abbrev pub told_if : Bool → (status block : ℕ) → Option (ℕ × ℕ)
told_if b status block = if b then Some (block, status) else None

low_at : (status block word x : ℕ) (b : Bool) → nat_lt block off_word ≡ b → told_if b status block ≡ Some (word, x) → word < word_count
low_at status block word x true test is =
    let under : block < off_word = ltb-true block off_word test in
    let at : block ≡ word = some_pair (block, status) (word, x) is in omega (arith, under, at)
low_at status block word x false test is = cc

low_pending : (o : Option ℕ) (word x : ℕ) → option_and_then (told_at (code_of Pending)) o ≡ Some (word, x) → word < word_count
low_pending (Some block) word x is = low_at (code_of Pending) block word x (nat_lt block off_word) refl is
low_pending None word x is = cc

low : (e : Entry) (word x : ℕ) → told_by e ≡ Some (word, x) → word < word_count
low (Ask caller r Accepted) word x is = low_pending (pending_block r) word x is
low (Ask caller r (Refused why)) word x is = cc
low (Ask caller r (StatusIs status)) word x is = cc
low (Ask caller r (IndexIs index)) word x is = cc
low (Pick block kind t ops) word x is = low_at (code_of Pending) block word x (nat_lt block off_word) refl is
low (Wrote i mark ops) word x is = cc
low (Post block r given refused ops) word x is = low_at (code_of r) block word x (nat_lt block off_word) refl is
low (Off ops) word x is = let at : off_word ≡ word = some_pair (off_word, 1) (word, x) is in omega (arith, at)
low (Found marks ops) word x is = cc

-- AN ENTRY
gives_as : (e : Entry) (word : ℕ) → is_found e ≡ false → gives e word ≡ gives_by (told_by e) word
gives_as (Ask caller r reply) word is = refl
gives_as (Pick block kind t ops) word is = refl
gives_as (Wrote i mark ops) word is = refl
gives_as (Post block r given refused ops) word is = refl
gives_as (Off ops) word is = refl
gives_as (Found marks ops) word is = cc

pub entries_change_one_word : EntriesChangeOneWord
entries_change_one_word e is = record {
  none = λ nothing u. gives_as e u is ∙ ap (λ (t : Option (ℕ × ℕ)). gives_by t u) nothing;
  one = λ word status one. (
    (
      gives_as e word is ∙ ap (λ (t : Option (ℕ × ℕ)). gives_by t word) one ∙ same word status,
      λ u not. gives_as e u is ∙ ap (λ (t : Option (ℕ × ℕ)). gives_by t u) one ∙ apart word u status not,
    ),
    low e word status one,
  );
}
