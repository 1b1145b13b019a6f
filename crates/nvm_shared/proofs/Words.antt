-- What the words tell.
use Rattle.std.proofs.Common.{Bool, true, false, if◌then◌else◌, ◌≡◌, ◌⊎◌, inl, inr, ℕ, zero, suc, ◌≤◌, ◌<◌, List, [], ◌∷◌, ◌++◌, length, Option, Some, None, refl, sym, ap, ◌∙◌, subst, arith, append_assoc, length-append}
use Rattle.std.proofs.lemmas.List.{append-nil}
use mathlib.Core.Option as maybe
use lib.ListN.{get_elem?}
use Rattle.atomic_table.proofs.Lists.{at_last, at_longer}
use Rattle.nvm_core.specs.nv_base.Result.{code_of}
use Rattle.nvm_core.specs.block_machine.Words.{Entry, Configuration}
use Rattle.nvm_core.specs.block_machine.State.{State}
use Rattle.nvm_core.specs.block_machine.Blocks.{status_of}
use Rattle.nvm_core.specs.block_machine.Legal.{IsLegal}
use Rattle.nvm_core.specs.block_machine.Steps.{after}
use Rattle.nvm_core.proofs.block_laws.HistoryLaws.{histories_step, beginnings_are_legal}
use Rattle.nvm_shared.proofs.Power.{power_of, tells_power}
use Rattle.turn_gate.specs.Entries.{Gave}
use Rattle.nvm_shared.specs.StatusWords.{gives, off_word}
use Rattle.nvm_shared.specs.Statuses.{IsLast, TheOffWordTells, WordsTellStatuses}
use Rattle.nvm_shared.proofs.EntryStatuses.{entries_tell}

-- a list is what is before a place, what stands there, and the rest
abbrev IsSplit : {E : Type 0} → List E → ℕ → E → Type 0
IsSplit {E} l k e = (front rest : List E) × (l ≡ front ++ e ∷ rest) × (length front ≡ k)

split : {E : Type 0} (l : List E) (k : ℕ) (e : E) → get_elem? l k ≡ maybe.some e → IsSplit l k e
split [] k e is = cc
split (x ∷ xs) zero e is = let same : x ≡ e = cc in ([], xs, ap (λ y. y ∷ xs) same, refl)
split (x ∷ xs) (suc k) e is = let (front, rest, at, count) = split xs k e is in (x ∷ front, rest, ap (λ l. x ∷ l) at, omega (arith, count))

none_or : (o : Option ℕ) → (o ≡ None) ⊎ ((y : ℕ) × (o ≡ Some y))
none_or None = inl refl
none_or (Some y) = inr (y, refl)

-- what a word tells of the state: an entry that gives it a status says what it is from there on
pub record Follows (c : Configuration) (cap : ℕ) (word : ℕ) (f : State → ℕ) (h : List Entry) (e : Entry) : Type 0 where
  pub none : gives e word ≡ None → f (after c (h ++ e ∷ [])) ≡ f (after c h)
  pub some : (x : ℕ) → gives e word ≡ Some x → f (after c (h ++ e ∷ [])) ≡ x

module _ (c : Configuration) (cap : ℕ) (block : ℕ) (f : State → ℕ)
    (tell : (h : List Entry) (e : Entry) → IsLegal c cap (h ++ e ∷ []) → Follows c cap block f h e) where
  -- no entry of the rest gives the word a status
  abbrev GiveNone : List Entry → Type 0
  GiveNone [] = Unit {0}
  GiveNone (e ∷ es) = (gives e block ≡ None) × GiveNone es

  stays_along : (h es : List Entry) → IsLegal c cap (h ++ es) → GiveNone es → f (after c (h ++ es)) ≡ f (after c h)
  stays_along h [] legal none = ap (λ (l : List Entry). f (after c l)) (append-nil h)
  stays_along h (e ∷ es) legal none =
      let joined : (h ++ e ∷ []) ++ es ≡ h ++ e ∷ es = append_assoc h (e ∷ []) es in
      let legal' = subst (IsLegal c cap) (sym joined) legal in
      ap (λ (l : List Entry). f (after c l)) (sym joined)
      ∙ stays_along (h ++ e ∷ []) es legal' none.1
      ∙ (tell h e (beginnings_are_legal c cap (h ++ e ∷ []) es legal')).none none.0

  quiet : (h es : List Entry) (entry : ℕ) → ((j y : ℕ) → Gave gives (h ++ es) block j y → j ≤ entry) → entry < length h → GiveNone es
  quiet h [] entry last behind = tt
  quiet h (e ∷ es) entry last behind =
      let joined : (h ++ e ∷ []) ++ es ≡ h ++ e ∷ es = append_assoc h (e ∷ []) es in
      let longer = length-append h (e ∷ []) in
      let at : get_elem? (h ++ e ∷ es) (length h) ≡ maybe.some e = ap (λ (l : List Entry). get_elem? l (length h)) (sym joined) ∙ at_longer (h ++ e ∷ []) es (length h) e (at_last h e (length h) refl) in (
        elim (none_or (gives e block)) [
          | inl none ↦ none
          | inr one ↦ absurd (omega (arith, behind, last (length h) one.0 (e, at, one.1)))
        ],
        quiet (h ++ e ∷ []) es entry (λ j y gave. last j y (subst (λ (l : List Entry). Gave gives l block j y) joined gave)) (omega (arith, behind, longer)),
      )

  pub told : (h : List Entry) (entry status : ℕ) → IsLegal c cap h → Gave gives h block entry status → IsLast h block entry → f (after c h) ≡ status
  told h entry status legal gave last =
      let (front, rest, at, count) = split h entry gave.0 gave.1 in
      let joined : (front ++ gave.0 ∷ []) ++ rest ≡ front ++ gave.0 ∷ rest = append_assoc front (gave.0 ∷ []) rest in
      let whole : h ≡ (front ++ gave.0 ∷ []) ++ rest = at ∙ sym joined in
      let legal' = subst (IsLegal c cap) whole legal in
      let longer = length-append front (gave.0 ∷ []) in
      let none = quiet (front ++ gave.0 ∷ []) rest entry (λ j y g. last j y (subst (λ (l : List Entry). Gave gives l block j y) (sym whole) g)) (omega (arith, count, longer)) in
      ap (λ (l : List Entry). f (after c l)) whole
      ∙ stays_along (front ++ gave.0 ∷ []) rest legal' none
      ∙ (tell front gave.0 (beginnings_are_legal c cap (front ++ gave.0 ∷ []) rest legal')).some status gave.2

pub words_tell_statuses : WordsTellStatuses
words_tell_statuses c cap h block entry status legal few low gave last =
    told c cap block (λ s. code_of (status_of s block))
    (λ h e legal. let is = entries_tell c cap h e block legal few low in record { none = λ nothing. ap code_of (is.none nothing); some = is.some })
    h entry status legal gave last

off_by : (s : State) → power_of s ≡ 1 → s.off ≡ true
off_by s is = by s.off refl
  where
    by : (b : Bool) → s.off ≡ b → s.off ≡ true
    by true now = now
    by false now = let none : power_of s ≡ 0 = ap (λ (b : Bool). if b then 1 else 0) now in absurd (omega (arith, is, none))

pub the_off_word_tells : TheOffWordTells
the_off_word_tells c cap h entry legal gave last = off_by (after c h)
    (told c cap off_word power_of
    (λ h e legal. let is = tells_power c (after c h) e in record {
      none = λ nothing. ap power_of (histories_step c h e) ∙ is.none nothing;
      some = λ x one. ap power_of (histories_step c h e) ∙ is.some x one;
    })
    h entry 1 legal gave last)
