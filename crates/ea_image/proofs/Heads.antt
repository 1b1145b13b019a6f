-- Heads from their bytes.
use Rattle.std.specs.Prelude.{◌&&◌, nat_lt, if◌then◌else◌}
use Rattle.std.proofs.Common.{◌≡◌, ◌↔◌, ◌<◌, ◌^◌, ℕ, Bool, true, false, IsTrue, List, Some, None, refl, sym, ap, ◌∙◌, subst}
use Rattle.std.specs.Int.{w16, w32, to_be_bytes, from_be_bytes}
use Rattle.std.proofs.lemmas.Bool.{false≢true}
use Rattle.std.proofs.lemmas.Nat.{from_be_bytes-to_be_bytes_2, from_be_bytes-to_be_bytes_4}
use Rattle.fee_format.specs.declared.rec_head.RecordKind.{RecordKind}
use Rattle.fee_format.specs.declared.rec_head.RecordKind.TheVariants.{Content, Invalid, Erased}
use Rattle.fee_format.specs.RecHead.{IsLengthOfKind, kind_byte, kind_in, is_length_of_kind}
use Rattle.fee_format.specs.Pages.{same_bytes}
use Rattle.fee_format.proofs.Tests.{both, lt_is, eq_is, bytes_are}
use Rattle.ea_image.specs.declared.slot_head.SlotHead.{SlotHead}
use Rattle.ea_image.specs.SlotHead.{IsLegalSlotHead, IsSlotHead, slot_head_page, slot_head_in, is_legal_slot_head}
use Rattle.ea_image.specs.Laws.{SlotHeadsCompute}

-- what is read under a test is the one thing that passes it
read_is : {A : Type 0} (b : Bool) (x y : A) (Is : A → Type 0) → IsTrue b ↔ Is x → (Is y → x ≡ y) → Is y ↔ ((if b then Some x else None) ≡ Some y)
read_is true x y Is test one = (λ is. ap Some (one is), λ e. let same : x ≡ y = cc e in subst Is same (test.0 refl))
read_is false x y Is test one = (λ is. absurd (false≢true (test.1 (subst Is (sym (one is)) is))), λ e. cc e)

-- a kind is read as it was written
kind_read : (k : RecordKind) → kind_in (kind_byte k) ≡ k
kind_read Content = refl
kind_read Invalid = refl
kind_read Erased = refl

pub slot_head_in_is : (p : ℕ) (h : SlotHead) → IsLegalSlotHead h → slot_head_in (slot_head_page p h) ≡ h
slot_head_in_is p h legal =
    let length : from_be_bytes w16 (to_be_bytes w16 h.length) ≡ h.length = from_be_bytes-to_be_bytes_2 h.length legal.length in
    let sequence : from_be_bytes w32 (to_be_bytes w32 h.sequence) ≡ h.sequence = from_be_bytes-to_be_bytes_4 h.sequence legal.sequence in
    let kind = kind_read h.kind in
    λ i. record { kind = kind i; length = length i; sequence = sequence i }

length_is : (k : RecordKind) (length : ℕ) → IsTrue (is_length_of_kind k length) ↔ IsLengthOfKind k length
length_is Content length = lt_is 0 length
length_is Invalid length = eq_is length 0
length_is Erased length = eq_is length 0

pub legal_is : (h : SlotHead) → IsTrue (is_legal_slot_head h) ↔ IsLegalSlotHead h
legal_is h =
    let has_length = is_length_of_kind h.kind h.length in
    let HasLength = IsLengthOfKind h.kind h.length in
    let rest = both has_length (nat_lt h.length 65536) HasLength (h.length < 65536) (length_is h.kind h.length) (lt_is h.length 65536) in
    let all = both (nat_lt h.sequence (2 ^ 32)) (has_length && nat_lt h.length 65536) (h.sequence < 2 ^ 32) (HasLength × (h.length < 65536)) (lt_is h.sequence (2 ^ 32)) rest in (
      λ t. let a = all.0 t in record { kind = a.1.0; length = a.1.1; sequence = a.0 },
      λ l. all.1 (l.sequence, (l.kind, l.length)),
    )

slot_test : (p : ℕ) (page : List ℕ) → IsTrue (is_legal_slot_head (slot_head_in page) && same_bytes page (slot_head_page p (slot_head_in page))) ↔ IsSlotHead p page (slot_head_in page)
slot_test p page =
    let h = slot_head_in page in
    let all = both (is_legal_slot_head h) (same_bytes page (slot_head_page p h)) (IsLegalSlotHead h) (page ≡ slot_head_page p h) (legal_is h) (bytes_are page (slot_head_page p h)) in
    (λ t. let a = all.0 t in record { legal = a.0; page_is = a.1 }, λ is. all.1 (is.legal, is.page_is))

pub slot_heads_compute : SlotHeadsCompute
slot_heads_compute p page h =
    read_is (is_legal_slot_head (slot_head_in page) && same_bytes page (slot_head_page p (slot_head_in page))) (slot_head_in page) h (IsSlotHead p page) (slot_test p page)
    (λ is. ap slot_head_in is.page_is ∙ slot_head_in_is p h is.legal)
