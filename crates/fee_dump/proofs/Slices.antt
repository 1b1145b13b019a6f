-- A bank of an image in bytes of its own.
use Rattle.std.proofs.Common.{inl, inr, true≢false, ◌≡◌, ◌≤◌, ◌<◌, ◌+◌, ◌-◌, ◌&&◌, ◌↔◌, ℕ, zero, suc, Bool, true, false, IsTrue, List, Option, Some, None, MatchOption, option_map, refl, sym, ap, subst, ◌∙◌, arith}
use Rattle.std.proofs.lemmas.Bool.{cases_lt, and_from}
use Rattle.fee_format.specs.BankHead.{IsBankHead}
use Rattle.fee_format.specs.Gate.{IsGate}
use Rattle.std.proofs.lemmas.Slice.Eq.{bytes_eq-Decides}
use Rattle.fee_format.specs.declared.bank_head.BankHead.{BankHead}
use Rattle.fee_format.specs.Pages.{blank_page}
use Rattle.fee_image.specs.Bank.{Bank, page_of}
use Rattle.fee_image.specs.Image.{Layout, bank_in, BankStands, head_of_bank}
use Rattle.fee_image.specs.Laws.{bank_bytes}
use Rattle.fee_image.specs.RecordList.{StandsAs, StandsNot, IsTailBlank, records_of, end_of, end_after}
use Rattle.fee_view.specs.View.{View, own_bank}
use Rattle.fee_dump.specs.Dump.{are_blank, has_blank_tail}
use Rattle.fee_dump.specs.Seen.{Shows}
use Rattle.fee_image.proofs.Banks.{heads_compute}
use Rattle.fee_image.proofs.Reading.{records_stay, slices_agree}

-- THE TAIL
both_true : (a b : Bool) → (a && b) ≡ true → (a ≡ true) × (b ≡ true)
both_true true b e = (refl, e)
both_true false b e = absurd (true≢false (sym e))

blank_at : (b : Bank) (bytes : List ℕ) (q n : ℕ) → are_blank b bytes q n ≡ true → (i : ℕ) → q ≤ i → i < q + n → page_of b bytes i ≡ blank_page b.page
blank_at b bytes q zero e i low high = absurd (omega arith)
blank_at b bytes q (suc n) e i low high = elim (cases_lt q i) [
  | inl later ↦ blank_at b bytes (suc q) n (both_true _ _ e).1 i later (omega arith)
  | inr here ↦
      let same : q ≡ i = omega arith in
      subst (λ (j : ℕ). page_of b bytes j ≡ blank_page b.page) same ((bytes_eq-Decides (page_of b bytes q) (blank_page b.page)).0 (both_true _ _ e).0)
]

blank_all : (b : Bank) (bytes : List ℕ) (q n : ℕ) → ((i : ℕ) → q ≤ i → i < q + n → page_of b bytes i ≡ blank_page b.page) → are_blank b bytes q n ≡ true
blank_all b bytes q zero all = refl
blank_all b bytes q (suc n) all =
    and_from _ _ ((bytes_eq-Decides (page_of b bytes q) (blank_page b.page)).1 (all q (omega arith) (omega arith))) (blank_all b bytes (suc q) n (λ i low high. all i (omega arith) (omega arith)))

-- two tests of one fact agree
pub same_test : {P : Type 0} (a b : Bool) → (IsTrue a ↔ P) → (P ↔ IsTrue b) → a ≡ b
same_test true b to from = sym (from.0 (to.0 refl))
same_test false true to from = to.1 (from.1 refl)
same_test false false to from = refl

pub tail_blank : (b : Bank) (bytes : List ℕ) → IsTailBlank b bytes (end_of b bytes) ↔ IsTrue (has_blank_tail b bytes)
tail_blank b bytes = (
  λ all. blank_all b bytes (end_of b bytes) (b.pages - end_of b bytes) (λ i low high. all i low (omega arith)),
  λ e i low high. blank_at b bytes (end_of b bytes) (b.pages - end_of b bytes) e i low (omega arith),
)

-- THE PAGES
-- these bytes are bank k's own
abbrev pub IsSliceOf : Layout → List ℕ → ℕ → List ℕ → Type 0
IsSliceOf l image k slice = slice ≡ bank_bytes (bank_in l 1 k) image

same_page : (l : Layout) (image : List ℕ) (k format : ℕ) (slice : List ℕ) (q : ℕ) → IsSliceOf l image k slice → q < l.pages → page_of (own_bank l.page l.pages format) slice q ≡ page_of (bank_in l format k) image q
same_page l image k format slice q is lt = rw is (slices_agree (bank_in l format k) image q lt)

-- THE HEAD
stands_in : (l : Layout) (image : List ℕ) (k : ℕ) (slice : List ℕ) (h : BankHead) → IsSliceOf l image k slice → 2 ≤ l.pages → StandsAs (own_bank l.page 2 1) slice h → BankStands l image k h
stands_in l image k slice h is two stands = record {
  head = subst (λ (page : List ℕ). IsBankHead l.page page h) (same_page l image k h.format slice 0 is (omega arith)) stands.head;
  gate = subst (λ (page : List ℕ). IsGate l.page page) (same_page l image k h.format slice 1 is (omega arith)) stands.gate;
}

stands_own : (l : Layout) (image : List ℕ) (k : ℕ) (slice : List ℕ) (h : BankHead) → IsSliceOf l image k slice → 2 ≤ l.pages → BankStands l image k h → StandsAs (own_bank l.page 2 1) slice h
stands_own l image k slice h is two stands = record {
  head = subst (λ (page : List ℕ). IsBankHead l.page page h) (sym (same_page l image k h.format slice 0 is (omega arith))) stands.head;
  gate = subst (λ (page : List ℕ). IsGate l.page page) (sym (same_page l image k h.format slice 1 is (omega arith))) stands.gate;
}

none_found : (l : Layout) (image : List ℕ) (k : ℕ) (slice : List ℕ) (o : Option BankHead) → o ≡ head_of_bank l image k → IsSliceOf l image k slice → 2 ≤ l.pages → StandsNot (own_bank l.page 2 1) slice → None ≡ o
none_found l image k slice None e is two not = refl
none_found l image k slice (Some h) e is two not = absurd (not h (stands_own l image k slice h is two ((heads_compute l image k h).1 (sym e))))

pub head_found : {V : Type 0} (head : V → BankHead) (o : Option V) → (l : Layout) (image : List ℕ) (k : ℕ) (slice : List ℕ) → IsSliceOf l image k slice → 2 ≤ l.pages → MatchOption o (StandsNot (own_bank l.page 2 1) slice) (λ v. StandsAs (own_bank l.page 2 1) slice (head v)) → option_map head o ≡ head_of_bank l image k
head_found head None l image k slice is two not = none_found l image k slice (head_of_bank l image k) refl is two not
head_found head (Some v) l image k slice is two stands = sym ((heads_compute l image k (head v)).0 (stands_in l image k slice (head v) is two stands))

-- THE LOG
shows_at : (l : Layout) (image : List ℕ) (k : ℕ) (slice : List ℕ) (h : BankHead) → IsSliceOf l image k slice → Shows l image k (record { bytes = slice; page = l.page; pages = l.pages; head = h })
shows_at l image k slice h is =
    let b = bank_in l h.format k in
    let own = own_bank l.page l.pages h.format in
    let same : (q : ℕ) → q < l.pages → page_of own slice q ≡ page_of b image q = λ q lt. same_page l image k h.format slice q is lt in
    let records : records_of own slice ≡ records_of b image = records_stay b image slice 0 (λ q low high. same q high) in
    let end : end_of own slice ≡ end_of b image = ap (end_after l.page 2) records in
    let there : IsTailBlank own slice (end_of own slice) → IsTailBlank b image (end_of b image) = λ all q low high. sym (same q high) ∙ all q (rw end low) high in
    let back : IsTailBlank b image (end_of b image) → IsTailBlank own slice (end_of own slice) = λ all q low high. same q high ∙ all q (rw (← end) low) high in
    let law = tail_blank b image in
    record {
      records = records;
      tail = (λ all. law.0 (there all), λ e. back (law.1 e));
    }

pub shows : (l : Layout) (image : List ℕ) (k : ℕ) (slice : List ℕ) → IsSliceOf l image k slice → (pages : ℕ) → l.pages ≡ pages → (v : View) → v ≡ record { bytes = slice; page = l.page; pages = pages; head = v.head } → Shows l image k v
shows l image k slice is pages same v e =
    let at_pages : Shows l image k (record { bytes = slice; page = l.page; pages = pages; head = v.head }) =
    subst (λ (n : ℕ). Shows l image k (record { bytes = slice; page = l.page; pages = n; head = v.head })) same (shows_at l image k slice v.head is) in
    subst (λ (w : View). Shows l image k w) (sym e) at_pages
