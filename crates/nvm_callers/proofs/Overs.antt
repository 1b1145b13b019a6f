-- What a wait that is over tells of the machine's state.
use Rattle.nvm_callers.proofs.Common.{◌||◌, ◌≡◌, ◌⊎◌, inl, inr, ℕ, zero, suc, ◌≤◌, ◌∙◌, not, Bool, true, false, List, [], ◌∷◌, Option, Some, None, refl, sym, ap, subst, arith, some-ne-none, some-injective, code_of, ReqResult, Fine, Pending, Entry, Found, is_pending, after, Gave, tells_status, tells_off, told_last, gives, off_word, IsLast, status_of, the_off_word_tells, words_tell_statuses, OverIsNotPending}
use Rattle.std.proofs.Common.{IsTrue}
use Rattle.nvm_callers.proofs.Waiting.{given_or, off_number_told, status_told}

-- the last entry that gives a word a number
abbrev HasLast : ℕ → List Entry → Type 0
HasLast word h = (k : ℕ) × (x : ℕ) × Gave gives h word k x × IsLast h word k

not_given : (o : Option ℕ) (x : ℕ) → o ≡ None → o ≡ Some x → ⊥
not_given o x none some = let no_ : None ≡ Some x = sym none ∙ some in cc no_

module _ (word : ℕ) where
  last_here : (e : Entry) (es : List Entry) (x : ℕ) → gives e word ≡ Some x → ((j y : ℕ) → Gave gives es word j y → ⊥) → HasLast word (e ∷ es)
  last_here e es x given none = (0, x, (e, refl, given), is_last)
    where
      is_last : (j y : ℕ) → Gave gives (e ∷ es) word j y → j ≤ 0
      is_last zero y gave = omega arith
      is_last (suc j) y gave = absurd (none j y gave)

  last_later : (e : Entry) (es : List Entry) → HasLast word es → HasLast word (e ∷ es)
  last_later e es (k, x, gave, last) = (suc k, x, gave, is_last)
    where
      is_last : (j y : ℕ) → Gave gives (e ∷ es) word j y → j ≤ suc k
      is_last zero y now = omega arith
      is_last (suc j) y later = let low = last j y later in omega (arith, low)

  last_or : (h : List Entry) → ((j y : ℕ) → Gave gives h word j y → ⊥) ⊎ HasLast word h
  last_or [] = inl (λ j y gave. some-ne-none gave.0 (sym gave.1))
  last_or (e ∷ es) = elim (last_or es) [
    | inr has ↦ inr (last_later e es has)
    | inl none ↦ elim (given_or (gives e word)) [
      | inr one ↦ inr (last_here e es one.0 one.1 none)
      | inl nothing ↦ inl (never nothing none)
    ]
  ]
    where
      never : gives e word ≡ None → ((j y : ℕ) → Gave gives es word j y → ⊥) → (j y : ℕ) → Gave gives (e ∷ es) word j y → ⊥
      never nothing none zero y gave = not_given (gives gave.0 word) y (ap (λ (x : Entry). gives x word) (sym (some-injective e gave.0 gave.1)) ∙ nothing) gave.2
      never nothing none (suc j) y gave = none j y gave

  last_behind : (e : Entry) (es : List Entry) (x : ℕ) → gives e word ≡ Some x → HasLast word (e ∷ es)
  last_behind e es x given = elim (last_or es) [ inl none ↦ last_here e es x given none | inr has ↦ last_later e es has ]

by_parts : (r s : ReqResult) (a b : Bool) → code_of r ≡ code_of s → (a ≡ true → b ≡ true) → IsTrue (not (is_pending r) || a) → IsTrue (not (is_pending s) || b)
by_parts Pending Pending a b same off over = off over
by_parts r Pending a b same off over = absurd (omega (arith, same))
by_parts r s a b same off over = refl

pub over_is_not_pending : OverIsNotPending
over_is_not_pending c cap marks ops more block legal few low over =
    let h : List Entry = Found marks ops ∷ more in
    let (k, x, gave, is_last) = last_behind block (Found marks ops) more 0 refl in
    let (i, y, gave_off, is_last_off) = last_behind off_word (Found marks ops) more 0 refl in
    by_parts (told_last (tells_status block) Fine h) (status_of (after c h) block) (told_last tells_off false h) (after c h).off
    (status_told block low h k x gave is_last ∙ sym (words_tell_statuses c cap h block k x legal few low gave is_last))
    (λ on. the_off_word_tells c cap h i legal (subst (λ (n : ℕ). Gave gives h off_word i n) (off_number_told h i y gave_off is_last_off on) gave_off) is_last_off) over
