-- What is in memory of an instance, and what its slots hold.
use Rattle.std.specs.Prelude.{nat_lt, if◌then◌else◌}
use Rattle.std.proofs.Common.{◌≡◌, ◌⊎◌, inl, inr, ◌<◌, ◌≤◌, ℕ, Bool, true, false, List, Option, Some, None, refl, sym, ap, ◌∙◌, subst, arith}
use Rattle.std.proofs.lemmas.Bool.{cases_Bool, cases_lt, false≢true}
use Rattle.nv_base.specs.Held.{Held}
use Rattle.fee_format.specs.Pages.{blank_page}
use Rattle.fee_format.proofs.Tests.{lt_is}
use Rattle.ea_image.specs.declared.slot_head.SlotHead.{SlotHead}
use Rattle.ea_image.specs.declared.memory.SlotMemory.{SlotMemory}
use Rattle.ea_image.specs.declared.which.Which.{Which}
use Rattle.ea_image.specs.declared.which.Which.TheVariants.{Slot0, Slot1}
use Rattle.ea_image.specs.declared.step.SlotStep.TheVariants.{EraseHead, EraseBody, Body, Head, Gate}
use Rattle.ea_image.specs.SlotHead.{IsSlotHead, slot_head_page}
use Rattle.ea_image.specs.Slots.{SlotBytes, other, standing, newest, held_as, held_by, found_of}
use Rattle.ea_image.specs.Memory.{sequence_next, held_with, settled_of, doubt_of, IsOlder, HoldsSlots, memory_as, memory_loaded}
use Rattle.ea_image.specs.Laws.{FoundIsHeld, LoadedHolds, FailedStepsHold, DoneStepsHold}
use Rattle.ea_image.proofs.Heads.{slot_heads_compute}
use Rattle.ea_image.proofs.Soundness.{blank_is_no_gate}
use Rattle.ea_image.proofs.Torn.{stands_open, torn_erases_make_no_slot}

lt_true : (a b : ℕ) → a < b → nat_lt a b ≡ true
lt_true a b lt = (lt_is a b).1 lt

lt_false : (a b : ℕ) → b ≤ a → nat_lt a b ≡ false
lt_false a b le = elim (cases_Bool (nat_lt a b)) [ inl t ↦ absurd (let lt = (lt_is a b).0 t in omega arith) | inr f ↦ f ]

-- FOUND
-- what is found by the two heads
abbrev Found : (Which → SlotBytes) → Option SlotHead → Option SlotHead → Held
Found slots a b = held_as slots (newest a b)

-- one of the two that stand counts
one_of : (slots : Which → SlotBytes) (a b : SlotHead) (t : Bool) → (held_as slots (if t then Some (Slot1, b) else Some (Slot0, a)) ≡ held_by a (slots Slot0).body) ⊎ (held_as slots (if t then Some (Slot1, b) else Some (Slot0, a)) ≡ held_by b (slots Slot1).body)
one_of slots a b true = inr refl
one_of slots a b false = inl refl

abbrev Shows : (Which → SlotBytes) → SlotMemory → Held → Type 0
Shows slots m found = (found ≡ settled_of m slots) ⊎ ((h : SlotHead) × (m.doubt ≡ Some h) × (found ≡ doubt_of m slots))

abbrev Beside : Which → Option SlotHead → Option SlotHead → Option SlotHead → Type 0
Beside t settled doubt shown = (h : SlotHead) → shown ≡ Some h → (doubt ≡ Some h) ⊎ IsOlder t h settled

shows_0 : (slots : Which → SlotBytes) (settled doubt shown : Option SlotHead) → Beside Slot0 settled doubt shown → Shows slots (record { target = Slot0; settled = settled; doubt = doubt }) (Found slots shown settled)
shows_0 slots None doubt None may = inl refl
shows_0 slots (Some b) doubt None may = inl refl
shows_0 slots None doubt (Some h) may = elim (may h refl) [
  | inl e ↦ inr (h, e, ap (λ (o : Option SlotHead). held_with o (slots Slot0)) (sym e))
  | inr older ↦ absurd older
]
shows_0 slots (Some b) doubt (Some h) may = elim (may h refl) [
  | inl e ↦ elim (one_of slots h b (nat_lt h.sequence b.sequence)) [
    | inl first ↦ inr (h, e, first ∙ ap (λ (o : Option SlotHead). held_with o (slots Slot0)) (sym e))
    | inr second ↦ inl second
  ]
  | inr older ↦ inl (ap (λ (t : Bool). held_as slots (if t then Some (Slot1, b) else Some (Slot0, h))) (lt_true h.sequence b.sequence older))
]

shows_1 : (slots : Which → SlotBytes) (settled doubt shown : Option SlotHead) → Beside Slot1 settled doubt shown → Shows slots (record { target = Slot1; settled = settled; doubt = doubt }) (Found slots settled shown)
shows_1 slots None doubt None may = inl refl
shows_1 slots (Some a) doubt None may = inl refl
shows_1 slots None doubt (Some h) may = elim (may h refl) [
  | inl e ↦ inr (h, e, ap (λ (o : Option SlotHead). held_with o (slots Slot1)) (sym e))
  | inr older ↦ absurd older
]
shows_1 slots (Some a) doubt (Some h) may = elim (may h refl) [
  | inl e ↦ elim (one_of slots a h (nat_lt a.sequence h.sequence)) [
    | inl first ↦ inl first
    | inr second ↦ inr (h, e, second ∙ ap (λ (o : Option SlotHead). held_with o (slots Slot1)) (sym e))
  ]
  | inr older ↦ inl (ap (λ (t : Bool). held_as slots (if t then Some (Slot1, h) else Some (Slot0, a))) (lt_false a.sequence h.sequence older))
]

found_at_target : (p size : ℕ) (slots : Which → SlotBytes) (t : Which) (settled doubt : Option SlotHead) → HoldsSlots p size (record { target = t; settled = settled; doubt = doubt }) slots → Shows slots (record { target = t; settled = settled; doubt = doubt }) (found_of p size slots)
found_at_target p size slots Slot0 settled doubt holds =
    subst (λ (o : Option SlotHead). Shows slots (record { target = Slot0; settled = settled; doubt = doubt }) (Found slots (standing p size (slots Slot0)) o)) (sym holds.settled)
    (shows_0 slots settled doubt (standing p size (slots Slot0)) holds.target)
found_at_target p size slots Slot1 settled doubt holds =
    subst (λ (o : Option SlotHead). Shows slots (record { target = Slot1; settled = settled; doubt = doubt }) (Found slots o (standing p size (slots Slot1)))) (sym holds.settled)
    (shows_1 slots settled doubt (standing p size (slots Slot1)) holds.target)

pub found_is_held : FoundIsHeld
found_is_held p size m slots holds = found_at_target p size slots m.target m.settled m.doubt holds

-- LOADED
pub record Loads (slots : Which → SlotBytes) (a b : Option SlotHead) (m : SlotMemory) (found : Held) (Stands : Which → Option SlotHead) : Type 0 where
  settled : Stands (other m.target) ≡ m.settled
  target : (h : SlotHead) → Stands m.target ≡ Some h → (m.doubt ≡ Some h) ⊎ IsOlder m.target h m.settled
  doubt : m.doubt ≡ None
  shows : settled_of m slots ≡ found

abbrev of_two : Option SlotHead → Option SlotHead → Which → Option SlotHead
of_two a b Slot0 = a
of_two a b Slot1 = b

some_is : (a h : SlotHead) → Some a ≡ Some h → h ≡ a
some_is a h e = cc e

newer : (slots : Which → SlotBytes) (a b : SlotHead) (t : Bool) → nat_lt a.sequence b.sequence ≡ t → Loads slots (Some a) (Some b) (memory_as (if t then Some (Slot1, b) else Some (Slot0, a))) (held_as slots (if t then Some (Slot1, b) else Some (Slot0, a))) (of_two (Some a) (Some b))
newer slots a b true e =
    let lt : a.sequence < b.sequence = (lt_is a.sequence b.sequence).0 e in
    record { settled = refl; target = λ h is. inr (subst (λ (x : SlotHead). x.sequence < b.sequence) (sym (some_is a h is)) lt); doubt = refl; shows = refl }
newer slots a b false e =
    let le : b.sequence ≤ a.sequence = elim (cases_lt a.sequence b.sequence) [ inl lt ↦ absurd (false≢true (sym e ∙ lt_true a.sequence b.sequence lt)) | inr ge ↦ ge ] in
    record { settled = refl; target = λ h is. inr (subst (λ (x : SlotHead). x.sequence ≤ a.sequence) (sym (some_is b h is)) le); doubt = refl; shows = refl }

loads : (slots : Which → SlotBytes) (a b : Option SlotHead) → Loads slots a b (memory_as (newest a b)) (held_as slots (newest a b)) (of_two a b)
loads slots None None = record { settled = refl; target = λ h is. cc is; doubt = refl; shows = refl }
loads slots (Some a) None = record { settled = refl; target = λ h is. cc is; doubt = refl; shows = refl }
loads slots None (Some b) = record { settled = refl; target = λ h is. cc is; doubt = refl; shows = refl }
loads slots (Some a) (Some b) = newer slots a b (nat_lt a.sequence b.sequence) refl

stands_as : (p size : ℕ) (slots : Which → SlotBytes) (t : Which) → standing p size (slots t) ≡ of_two (standing p size (slots Slot0)) (standing p size (slots Slot1)) t
stands_as p size slots Slot0 = refl
stands_as p size slots Slot1 = refl

pub loaded_holds : LoadedHolds
loaded_holds p size slots =
    let l = loads slots (standing p size (slots Slot0)) (standing p size (slots Slot1)) in
    let m = memory_loaded p size slots in (
      record {
        settled = stands_as p size slots (other m.target) ∙ l.settled;
        target = λ h is. l.target h (sym (stands_as p size slots m.target) ∙ is);
        doubt = λ h is. let none = l.doubt in cc (is, none);
      },
      l.shows,
    )

-- STEPS
none_is : (p size : ℕ) (b : SlotBytes) (h : SlotHead) → 16 ≤ p → b.gate ≡ blank_page p → standing p size b ≡ Some h → ⊥
none_is p size b h le blank e = blank_is_no_gate p (omega arith) (sym blank ∙ (stands_open p size b h e).0)

-- with another doubt, where the other slot stayed
pub holds_as : (p size : ℕ) (m : SlotMemory) (doubt : Option SlotHead) (old new : Which → SlotBytes) → HoldsSlots p size m old → new (other m.target) ≡ old (other m.target)
    → ((h : SlotHead) → standing p size (new m.target) ≡ Some h → (doubt ≡ Some h) ⊎ IsOlder m.target h m.settled) → ((h : SlotHead) → doubt ≡ Some h → h.sequence ≡ sequence_next m.settled) → HoldsSlots p size (record m { doubt = doubt }) new
holds_as p size m doubt old new holds beside target next = record { settled = ap (standing p size) beside ∙ holds.settled; target = target; doubt = next }

pub failed_steps_hold : FailedStepsHold
failed_steps_hold p pages size h content EraseHead m old new at =
    holds_as p size m m.doubt old new at.holds at.beside
    (λ x e. at.holds.target x (torn_erases_make_no_slot p size (old m.target) (new m.target) x at.whole at.sound at.leaves.0 at.leaves.1 e)) at.holds.doubt
failed_steps_hold p pages size h content EraseBody m old new at = holds_as p size m m.doubt old new at.holds at.beside (λ x e. absurd (none_is p size (new m.target) x at.page (at.leaves.1 ∙ at.come.1) e)) at.holds.doubt
failed_steps_hold p pages size h content (Body i) m old new at = holds_as p size m m.doubt old new at.holds at.beside (λ x e. absurd (none_is p size (new m.target) x at.page (at.leaves.1 ∙ at.come.1) e)) at.holds.doubt
failed_steps_hold p pages size h content Head m old new at = holds_as p size m m.doubt old new at.holds at.beside (λ x e. absurd (none_is p size (new m.target) x at.page (at.leaves.0 ∙ at.come.1) e)) at.holds.doubt
failed_steps_hold p pages size h content Gate m old new at =
    holds_as p size m (Some h) old new at.holds at.beside
    (λ x e.
    let is : IsSlotHead p (new m.target).head x = (stands_open p size (new m.target) x e).1 in
    let page : (new m.target).head ≡ slot_head_page p h = at.leaves.0 ∙ at.come.0 in
    let same = sym ((slot_heads_compute p (slot_head_page p h) h).0 at.head) ∙ (slot_heads_compute p (slot_head_page p h) x).0 (subst (λ (l : List ℕ). IsSlotHead p l x) page is) in
    inl same)
    (λ x e. ap (λ (y : SlotHead). y.sequence) (some_is h x e) ∙ at.next)

older_next : (t : Which) (settled : Option SlotHead) (h x : SlotHead) → settled ≡ Some x → h.sequence ≡ sequence_next settled → IsOlder (other t) x (Some h)
older_next Slot0 None h x e next = cc e
older_next Slot0 (Some y) h x e next = let same = some_is y x e in subst (λ (z : SlotHead). z.sequence ≤ h.sequence) (sym same) (omega (arith, next))
older_next Slot1 None h x e next = cc e
older_next Slot1 (Some y) h x e next = let same = some_is y x e in subst (λ (z : SlotHead). z.sequence < h.sequence) (sym same) (omega (arith, next))

other_twice : (t : Which) → other (other t) ≡ t
other_twice Slot0 = refl
other_twice Slot1 = refl

pub done_steps_hold : DoneStepsHold
done_steps_hold p pages size h content EraseHead m old new at come stands = holds_as p size m None old new at.holds at.beside (λ x e. absurd (none_is p size (new m.target) x at.page come.1 e)) (λ x e. cc e)
done_steps_hold p pages size h content EraseBody m old new at come stands = failed_steps_hold p pages size h content EraseBody m old new at
done_steps_hold p pages size h content (Body i) m old new at come stands = failed_steps_hold p pages size h content (Body i) m old new at
done_steps_hold p pages size h content Head m old new at come stands = failed_steps_hold p pages size h content Head m old new at
done_steps_hold p pages size h content Gate m old new at come stands =
    record {
      settled = ap (λ (t : Which). standing p size (new t)) (other_twice m.target) ∙ stands refl;
      target = λ x e. inr (older_next m.target m.settled h x (sym at.holds.settled ∙ ap (standing p size) (sym at.beside) ∙ e) at.next);
      doubt = λ x e. cc e;
    }
