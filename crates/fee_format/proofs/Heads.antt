-- Heads from their bytes.
use Rattle.std.specs.Prelude.{◌==◌, ◌&&◌, ◌||◌, ◌++◌, nat_lt, take, replicate, ◌-◌, if◌then◌else◌}
use Rattle.std.proofs.Common.{◌≡◌, ◌↔◌, ◌<◌, ◌^◌, ℕ, Bool, true, false, IsTrue, List, Some, None, refl, sym, ap, ◌∙◌, subst, arith}
use Rattle.std.specs.Int.{w16, w32, to_be_bytes, from_be_bytes, bytes_high_first}
use Rattle.std.proofs.lemmas.Bool.{false≢true}
use Rattle.std.proofs.lemmas.Nat.{from_be_bytes-to_be_bytes_2, from_be_bytes-to_be_bytes_4}
use Rattle.fee_format.specs.declared.bank_head.BankHead.{BankHead}
use Rattle.fee_format.specs.declared.rec_head.RecHead.{RecHead}
use Rattle.fee_format.specs.declared.rec_head.RecordKind.{RecordKind}
use Rattle.fee_format.specs.declared.rec_head.RecordKind.TheVariants.{Content, Invalid, Erased}
use Rattle.fee_format.specs.BankHead.{IsLegalBankHead, IsBankHead, bank_head_page, bank_head_in}
use Rattle.fee_format.specs.RecHead.{IsLengthOfKind, IsLegalRecHead, IsRecHead, kind_byte, kind_in, is_length_of_kind, rec_head_page, rec_head_in, is_legal_rec_head}
use Rattle.fee_format.specs.Formats.{IsFormat, is_format, new_format, CountIn, IsCountIn, is_count_in}
use Rattle.fee_format.specs.Pages.{same_bytes}
use Rattle.fee_format.specs.Laws.{BankHeadsCompute, RecHeadsCompute}
use Rattle.fee_format.proofs.Tests.{both, either, lt_is, eq_is, bytes_are}

-- what is read under a test is the one thing that passes it
read_is : {A : Type 0} (b : Bool) (x y : A) (Is : A → Type 0) → IsTrue b ↔ Is x → (Is y → x ≡ y) → Is y ↔ ((if b then Some x else None) ≡ Some y)
read_is true x y Is test one = (λ is. ap Some (one is), λ e. let same : x ≡ y = cc e in subst Is same (test.0 refl))
read_is false x y Is test one = (λ is. absurd (false≢true (test.1 (subst Is (sym (one is)) is))), λ e. cc e)

-- BANK HEADS
pub bank_head_in_is : (p : ℕ) (h : BankHead) → IsLegalBankHead h → bank_head_in (bank_head_page p h) ≡ h
bank_head_in_is p h legal =
    let generation : from_be_bytes w32 (to_be_bytes w32 h.generation) ≡ h.generation = from_be_bytes-to_be_bytes_4 h.generation legal.generation in
    λ i. record { format = h.format; generation = generation i }

pub format_is : (n : ℕ) → IsTrue (is_format n) ↔ IsFormat n
format_is n = either (n == 1) (n == 2) (n ≡ 1) (n ≡ 2) (eq_is n 1) (eq_is n 2)

bank_test : (p : ℕ) (page : List ℕ) → IsTrue ((is_format (bank_head_in page).format && nat_lt (bank_head_in page).generation (2 ^ 32)) && same_bytes page (bank_head_page p (bank_head_in page))) ↔ IsBankHead p page (bank_head_in page)
bank_test p page =
    let h = bank_head_in page in
    let legal = both (is_format h.format) (nat_lt h.generation (2 ^ 32)) (IsFormat h.format) (h.generation < 2 ^ 32) (format_is h.format) (lt_is h.generation (2 ^ 32)) in
    let all = both (is_format h.format && nat_lt h.generation (2 ^ 32)) (same_bytes page (bank_head_page p h)) (IsFormat h.format × (h.generation < 2 ^ 32)) (page ≡ bank_head_page p h) legal (bytes_are page (bank_head_page p h)) in
    (λ t. let a = all.0 t in record { legal = record { format = a.0.0; generation = a.0.1 }; page_is = a.1 }, λ is. all.1 ((is.legal.format, is.legal.generation), is.page_is))

pub bank_heads_compute : BankHeadsCompute
bank_heads_compute p page h =
    read_is ((is_format (bank_head_in page).format && nat_lt (bank_head_in page).generation (2 ^ 32)) && same_bytes page (bank_head_page p (bank_head_in page))) (bank_head_in page) h (IsBankHead p page) (bank_test p page)
    (λ is. ap bank_head_in is.page_is ∙ bank_head_in_is p h is.legal)

-- RECORD HEADERS
-- a count is read as it was written
count_read : (b : Bool) (count : ℕ) (rest : List ℕ) → count < 2 ^ 32 → CountIn b count
    → (if b then from_be_bytes w32 (take 4 ((if b then bytes_high_first 4 count else replicate 4 255) ++ rest)) else 0) ≡ count
count_read true count rest small is = from_be_bytes-to_be_bytes_4 count small
count_read false count rest small none = sym none

pub counted_is : (b : Bool) (count : ℕ) → IsTrue (b || (count == 0)) ↔ CountIn b count
counted_is true count = (λ t. tt, λ is. refl)
counted_is false count = eq_is count 0

-- a kind is read as it was written
kind_read : (k : RecordKind) → kind_in (kind_byte k) ≡ k
kind_read Content = refl
kind_read Invalid = refl
kind_read Erased = refl

rec_head_in_is : (format p : ℕ) (h : RecHead) → IsLegalRecHead h → IsCountIn format h.count → rec_head_in format (rec_head_page format p h) ≡ h
rec_head_in_is format p h legal counted =
    let number : from_be_bytes w16 (to_be_bytes w16 h.number.0) ≡ h.number.0 = from_be_bytes-to_be_bytes_2 h.number.0 (omega (arith, legal.number_high)) in
    let length : from_be_bytes w16 (to_be_bytes w16 h.length) ≡ h.length = from_be_bytes-to_be_bytes_2 h.length legal.length in
    let count = count_read (format == new_format) h.count (replicate (p - 10) 255) legal.count counted in
    let kind = kind_read h.kind in
    λ i. record { number = record { 0 = number i }; kind = kind i; length = length i; count = count i }

length_is : (k : RecordKind) (length : ℕ) → IsTrue (is_length_of_kind k length) ↔ IsLengthOfKind k length
length_is Content length = lt_is 0 length
length_is Invalid length = eq_is length 0
length_is Erased length = eq_is length 0

legal_is : (h : RecHead) → IsTrue (is_legal_rec_head h) ↔ IsLegalRecHead h
legal_is h =
    let number = both (nat_lt 0 h.number.0) (nat_lt h.number.0 65535) (0 < h.number.0) (h.number.0 < 65535) (lt_is 0 h.number.0) (lt_is h.number.0 65535) in
    let has_length = is_length_of_kind h.kind h.length in
    let HasLength = IsLengthOfKind h.kind h.length in
    let rest = both has_length (nat_lt h.length 65536) HasLength (h.length < 65536) (length_is h.kind h.length) (lt_is h.length 65536) in
    let all = both (nat_lt 0 h.number.0 && nat_lt h.number.0 65535) (has_length && nat_lt h.length 65536) ((0 < h.number.0) × (h.number.0 < 65535)) (HasLength × (h.length < 65536)) number rest in
    let with_count = both (nat_lt h.count (2 ^ 32)) ((nat_lt 0 h.number.0 && nat_lt h.number.0 65535) && (has_length && nat_lt h.length 65536))
    (h.count < 2 ^ 32) (((0 < h.number.0) × (h.number.0 < 65535)) × (HasLength × (h.length < 65536)))
    (lt_is h.count (2 ^ 32)) all in (
      λ t. let c = with_count.0 t in let l = c.1 in record { number_low = l.0.0; number_high = l.0.1; kind = l.1.0; length = l.1.1; count = c.0 },
      λ l. with_count.1 (l.count, ((l.number_low, l.number_high), (l.kind, l.length))),
    )

rec_test : (format p : ℕ) (page : List ℕ) → IsTrue ((is_count_in format (rec_head_in format page).count && is_legal_rec_head (rec_head_in format page)) && same_bytes page (rec_head_page format p (rec_head_in format page))) ↔ IsRecHead format p page (rec_head_in format page)
rec_test format p page =
    let h = rec_head_in format page in
    let head = both (is_count_in format h.count) (is_legal_rec_head h) (IsCountIn format h.count) (IsLegalRecHead h) (counted_is (format == new_format) h.count) (legal_is h) in
    let all = both (is_count_in format h.count && is_legal_rec_head h) (same_bytes page (rec_head_page format p h)) (IsCountIn format h.count × IsLegalRecHead h) (page ≡ rec_head_page format p h) head (bytes_are page (rec_head_page format p h)) in
    (λ t. let a = all.0 t in record { legal = a.0.1; counted = a.0.0; page_is = a.1 }, λ is. all.1 ((is.counted, is.legal), is.page_is))

pub rec_heads_compute : RecHeadsCompute
rec_heads_compute format p page h =
    read_is ((is_count_in format (rec_head_in format page).count && is_legal_rec_head (rec_head_in format page)) && same_bytes page (rec_head_page format p (rec_head_in format page))) (rec_head_in format page) h (IsRecHead format p page) (rec_test format p page)
    (λ is. ap (rec_head_in format) is.page_is ∙ rec_head_in_is format p h is.legal is.counted)
