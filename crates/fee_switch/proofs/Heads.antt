-- The first pages of a bank.
use Rattle.std.proofs.Common.{◌≡◌, ◌≤◌, ◌+◌, ◌*◌, ◌-◌, ℕ, List, length, take, drop, Option, Some, None, sym, ap, ◌∙◌, refl, arith}
use Rattle.std.specs.Prelude.{MatchOption}
use Rattle.std.proofs.lemmas.List.{drop-drop, drop-take, take-take}
use Rattle.fee_format.specs.declared.bank_head.BankHead.{BankHead}
use Rattle.fee_image.specs.Bank.{page_of, place_of_page}
use Rattle.fee_image.specs.RecordList.{StandsAs, StandsNot}
use Rattle.fee_image.specs.Image.{Layout, bank_in, head_of_bank, BankStands}
use Rattle.fee_log.specs.Load.{HasPages}
use Rattle.fee_view.specs.View.{own_bank}
use Rattle.fee_switch.specs.StartLaws.{HeadsAreRead, PagesAreRead}
use Rattle.fee_image.proofs.Banks.{heads_compute}

pub pages_are_read : PagesAreRead
pages_are_read b bytes own from is q fits =
    let p = b.page in
    let n = length own in
    let a = place_of_page b from in
    let m = q * p in
    let ys = drop a bytes in
    let one : (q + 1) * p ≡ m + p = grind arith in
    let le : m + p ≤ n = omega (arith, one, fits) in
    let zeroth : (0 + q) * p ≡ m = omega arith in
    let place : a + m ≡ (b.at + (from + q)) * p = grind arith in
    sym (
    ap (λ (x : ℕ). take p (drop x own)) zeroth
    ∙ sym (drop-take m p own) ∙ ap (λ (x : List ℕ). drop m (take (m + p) x)) is ∙ ap (drop m) (take-take (m + p) n ys le) ∙ drop-take m p ys
    ∙ ap (take p) (drop-drop m a bytes) ∙ ap (λ (x : ℕ). take p (drop x bytes)) place)

module _ (l : Layout) (bytes own : List ℕ) (k : ℕ) (two : 2 * l.page ≤ length own) (has : HasPages (bank_in l 1 k) bytes 0 own) where
  first : page_of (bank_in l 1 k) bytes 0 ≡ page_of (own_bank l.page 2 1) own 0
  first = has 0 (omega (arith, two))

  second : page_of (bank_in l 1 k) bytes 1 ≡ page_of (own_bank l.page 2 1) own 1
  second = has 1 two

  stands : (h : BankHead) → StandsAs (own_bank l.page 2 1) own h → BankStands l bytes k h
  stands h s = record { head = rw first s.head; gate = rw second s.gate }

  stands_back : (h : BankHead) → BankStands l bytes k h → StandsAs (own_bank l.page 2 1) own h
  stands_back h s = record { head = rw (← first) s.head; gate = rw (← second) s.gate }

  none : (o : Option BankHead) → head_of_bank l bytes k ≡ o → StandsNot (own_bank l.page 2 1) own → o ≡ None
  none None e not = refl
  none (Some h) e not = absurd (not h (stands_back h ((heads_compute l bytes k h).1 e)))

  heads : (o : Option BankHead) → MatchOption o (StandsNot (own_bank l.page 2 1) own) (λ h. StandsAs (own_bank l.page 2 1) own h) → head_of_bank l bytes k ≡ o
  heads None not = none (head_of_bank l bytes k) refl not
  heads (Some h) s = (heads_compute l bytes k h).0 (stands h s)

pub heads_are_read : HeadsAreRead
heads_are_read l bytes own k head two has match = heads l bytes own k two has head match
