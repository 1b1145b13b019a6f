-- What a torn erase leaves of heads and gates.
use Rattle.std.specs.Prelude.{◌++◌, ◌-◌, if◌then◌else◌, replicate}
use Rattle.std.specs.Int.{byte_at}
use Rattle.std.proofs.Common.{◌≡◌, inl, inr, ◌<◌, ℕ, zero, suc, Bool, true, false, List, Option, Some, None, length, refl, sym, ap, ◌∙◌, subst, arith}
use Rattle.std.proofs.lemmas.Bool.{cases_Bool, false≢true}
use Rattle.fls_model.specs.Bytes.{Grown, AreBytes}
use Rattle.fee_format.specs.declared.rec_head.RecordKind.{RecordKind}
use Rattle.fee_format.specs.declared.rec_head.RecordKind.TheVariants.{Content, Invalid, Erased}
use Rattle.fee_format.specs.RecHead.{kind_byte}
use Rattle.fee_format.specs.Gate.{IsGate, is_gate}
use Rattle.fee_format.specs.Guard.{guarded}
use Rattle.fee_format.specs.Pages.{same_bytes}
use Rattle.fee_format.proofs.Guards.{guards_hold}
use Rattle.fee_format.proofs.Tests.{bytes_are, gates_compute}
use Rattle.fee_format.proofs.Torn.{grown_through, grown_back, torn_pages_keep_size, torn_gates_were_gates}
use Rattle.ea_image.specs.declared.slot_head.SlotHead.{SlotHead}
use Rattle.ea_image.specs.SlotHead.{IsSlotHead, slot_head_bytes, slot_head_page, slot_head_in, slot_head_of}
use Rattle.ea_image.specs.Slots.{SlotBytes, fits_length, fitting, standing}
use Rattle.ea_image.specs.Laws.{TornSlotHeadsAreSame, TornSlotHeadsStaySound, TornErasesMakeNoSlot}
use Rattle.ea_image.proofs.Heads.{slot_head_in_is, slot_heads_compute}
use Rattle.ea_image.proofs.Standing.{standing_open}

byte_small : (k n : ℕ) → byte_at k n < 256
byte_small zero n = omega arith
byte_small (suc k) n = omega arith

kind_small : (k : RecordKind) → kind_byte k < 256
kind_small Content = omega arith
kind_small Invalid = omega arith
kind_small Erased = omega arith

small_head : (h : SlotHead) → AreBytes (slot_head_bytes h)
small_head h zero = omega arith
small_head h (suc zero) = kind_small h.kind
small_head h (suc (suc zero)) = byte_small 1 h.length
small_head h (suc (suc (suc zero))) = byte_small 0 h.length
small_head h (suc (suc (suc (suc zero)))) = byte_small 3 h.sequence
small_head h (suc (suc (suc (suc (suc zero))))) = byte_small 2 h.sequence
small_head h (suc (suc (suc (suc (suc (suc zero)))))) = byte_small 1 h.sequence
small_head h (suc (suc (suc (suc (suc (suc (suc zero))))))) = byte_small 0 h.sequence
small_head h (suc (suc (suc (suc (suc (suc (suc (suc k)))))))) = omega arith

same_page : (p : ℕ) (h i : SlotHead) → Grown (slot_head_page p h) (slot_head_page p i) → slot_head_page p i ≡ slot_head_page p h
same_page p h i grown =
    let bytes : slot_head_bytes h ≡ slot_head_bytes i =
    guards_hold (slot_head_bytes h) (slot_head_bytes i) (replicate (p - 16) 255) (replicate (p - 16) 255) (small_head h) (small_head i) refl grown in
    ap (λ (b : List ℕ). guarded b ++ replicate (p - 16) 255) (sym bytes)

pub torn_slot_heads_are_same : TornSlotHeadsAreSame
torn_slot_heads_are_same p page torn h i head grown head2 =
    let same = same_page p h i (subst (Grown (slot_head_page p h)) head2.page_is (subst (λ (l : List ℕ). Grown l torn) head.page_is grown)) in
    (head2.page_is ∙ same ∙ sym head.page_is, sym (slot_head_in_is p i head2.legal) ∙ ap slot_head_in same ∙ slot_head_in_is p h head.legal)

pub torn_slot_heads_stay_sound : TornSlotHeadsStaySound
torn_slot_heads_stay_sound page torn (inl (h, is)) grown = elim (cases_Bool (same_bytes torn page)) [
  | inl t ↦
      let same : torn ≡ page = (bytes_are torn page).0 t in
      inl (h, subst (λ (l : List ℕ). IsSlotHead (length l) l h) (sym same) is)
  | inr f ↦ inr (λ later more i also.
      let size : length torn ≡ length page = torn_pages_keep_size page torn grown in
      let at : IsSlotHead (length page) later i = subst (λ (n : ℕ). IsSlotHead n later i) size also in
      let stays : later ≡ page = (torn_slot_heads_are_same (length page) page later h i is (grown_through page torn later grown more) at).0 in
      let back : torn ≡ page = sym (grown_back page torn grown (subst (Grown torn) stays more)) in
      false≢true (sym f ∙ (bytes_are torn page).1 back))
]
torn_slot_heads_stay_sound page torn (inr none) grown = inr (λ later more. subst (λ (n : ℕ). (h : SlotHead) → IsSlotHead n later h → ⊥) (sym (torn_pages_keep_size page torn grown)) (none later (grown_through page torn later grown more)))

-- SLOTS
fits_as : (b : Bool) (x h : SlotHead) → (if b then Some x else None) ≡ Some h → Some x ≡ Some h
fits_as true x h e = e
fits_as false x h e = cc e

pub fitting_is : (size : ℕ) (o : Option SlotHead) (h : SlotHead) → fitting size o ≡ Some h → o ≡ Some h
fitting_is size None h e = cc e
fitting_is size (Some x) h e = fits_as (fits_length x.kind x.length size) x h e

-- the gate of a slot that stands is open, and its head has the form
pub stands_open : (p size : ℕ) (b : SlotBytes) (h : SlotHead) → standing p size b ≡ Some h → IsGate p b.gate × IsSlotHead p b.head h
stands_open p size b h e = elim (cases_Bool (is_gate p b.gate)) [
  | inl t ↦
      let gate = (gates_compute p b.gate).0 t in
      (gate, (slot_heads_compute p b.head h).1 (fitting_is size (slot_head_of p b.head) h (sym (standing_open p size b gate) ∙ e)))
  | inr f ↦
      let none : standing p size b ≡ None = ap (λ (t : Bool). if t then fitting size (slot_head_of p b.head) else None) f in
      cc (e, none)
]

pub torn_erases_make_no_slot : TornErasesMakeNoSlot
torn_erases_make_no_slot p size old new h length_is sound head gate e =
    let (opened, is) = stands_open p size new h e in
    let was : IsGate p old.gate = torn_gates_were_gates p old.gate new.gate gate opened in
    elim (sound was) [
      | inl (h0, is0) ↦
          let same : new.head ≡ old.head = (torn_slot_heads_are_same p old.head new.head h0 h (subst (λ (n : ℕ). IsSlotHead n old.head h0) length_is is0) head is).0 in
          standing_open p size old was ∙ ap (λ (l : List ℕ). fitting size (slot_head_of p l)) (sym same) ∙ sym (standing_open p size new opened) ∙ e
      | inr none ↦ absurd (none new.head head h (subst (λ (n : ℕ). IsSlotHead n new.head h) (sym length_is) is))
    ]
