-- Sound images.
use Rattle.std.specs.Prelude.{◌&&◌, if◌then◌else◌}
use Rattle.std.proofs.Common.{◌≡◌, ◌⊎◌, inl, inr, ◌↔◌, ◌≤◌, ◌-◌, ℕ, zero, suc, Bool, true, false, IsTrue, List, length, take, replicate, refl, sym, ap, ◌∙◌, subst, arith}
use Rattle.std.proofs.lemmas.Bool.{cases_eq, false≢true}
use Rattle.std.proofs.lemmas.List.{drop-replicate}
use Rattle.nv_base.specs.declared.geometry.Geometry.{Geometry}
use Rattle.fee_format.specs.Gate.{IsGate, is_gate}
use Rattle.fee_format.specs.Pages.{blank_page, gate_page, body_pages_of}
use Rattle.fee_format.proofs.Tests.{both, gates_compute}
use Rattle.fee_format.proofs.Torn.{torn_gates_were_gates}
use Rattle.ea_image.specs.declared.slot_head.SlotHead.{SlotHead}
use Rattle.ea_image.specs.declared.which.Which.{Which}
use Rattle.ea_image.specs.declared.which.Which.TheVariants.{Slot0, Slot1}
use Rattle.ea_image.specs.declared.step.SlotStep.{SlotStep}
use Rattle.ea_image.specs.declared.step.SlotStep.TheVariants.{EraseHead, EraseBody, Body, Head, Gate}
use Rattle.ea_image.specs.SlotHead.{IsSlotHead, slot_head_page, IsSoundSlotHead, is_sound_slot_head}
use Rattle.ea_image.specs.Slots.{SlotBytes, slot_bytes, IsSoundSlot, IsSoundImage, is_sound_slot, is_sound_image}
use Rattle.ea_image.specs.Steps.{StepLeaves, HasCome}
use Rattle.ea_image.specs.Laws.{SoundSlotImagesCompute, StepsKeepSound, BlankIsSound}
use Rattle.ea_image.proofs.Done.{steps_are_steps}
use Rattle.ea_image.proofs.Reach.{head_page_size, steps_touch_one_slot, steps_leave}
use Rattle.ea_image.proofs.SoundHeads.{sound_slot_heads_compute}
use Rattle.ea_image.proofs.Torn.{torn_slot_heads_stay_sound}

-- COMPUTED
if_is : (t u : Bool) (T U : Type 0) → IsTrue t ↔ T → IsTrue u ↔ U → IsTrue (if t then u else true) ↔ (T → U)
if_is true u T U f g = (λ x. λ y. g.0 x, λ h. g.1 (h (f.0 refl)))
if_is false u T U f g = (λ x. λ y. absurd (false≢true (f.1 y)), λ h. refl)

sound_slot_is : (p : ℕ) (b : SlotBytes) → IsTrue (is_sound_slot p b) ↔ IsSoundSlot p b
sound_slot_is p b = if_is (is_gate p b.gate) (is_sound_slot_head b.head) (IsGate p b.gate) (IsSoundSlotHead b.head) (gates_compute p b.gate) (sound_slot_heads_compute b.head)

abbrev Pair : Geometry → List ℕ → ℕ → Type 0
Pair g image j = IsSoundSlot g.page (slot_bytes g image j Slot0) × IsSoundSlot g.page (slot_bytes g image j Slot1)

either_slot : (g : Geometry) (image : List ℕ) (j : ℕ) → Pair g image j → (s : Which) → IsSoundSlot g.page (slot_bytes g image j s)
either_slot g image j pair Slot0 = pair.0
either_slot g image j pair Slot1 = pair.1

next_is : (g : Geometry) (n : ℕ) (image : List ℕ) → (Pair g image n × IsSoundImage g n image) ↔ IsSoundImage g (suc n) image
next_is g n image = (
  λ x. λ j s lt. elim (cases_eq j n) [
    | inl is ↦ subst (λ (k : ℕ). IsSoundSlot g.page (slot_bytes g image k s)) (sym is) (either_slot g image n x.0 s)
    | inr other ↦ x.1 j s (omega arith)
  ],
  λ all. ((all n Slot0 (omega arith), all n Slot1 (omega arith)), λ j s lt. all j s (omega arith)),
)

pub sound_slot_images_compute : SoundSlotImagesCompute
sound_slot_images_compute g zero image = (λ t. λ j s lt. absurd (omega arith), λ all. refl)
sound_slot_images_compute g (suc n) image =
    let a = is_sound_slot g.page (slot_bytes g image n Slot0) in
    let b = is_sound_slot g.page (slot_bytes g image n Slot1) in
    let pair = both a b (IsSoundSlot g.page (slot_bytes g image n Slot0)) (IsSoundSlot g.page (slot_bytes g image n Slot1)) (sound_slot_is g.page (slot_bytes g image n Slot0)) (sound_slot_is g.page (slot_bytes g image n Slot1)) in
    let all = both (a && b) (is_sound_image g n image) (Pair g image n) (IsSoundImage g n image) pair (sound_slot_images_compute g n image) in
    (λ t. (next_is g n image).0 (all.0 t), λ x. all.1 ((next_is g n image).1 x))

-- KEPT BY THE STEPS
pub blank_is_no_gate : (p : ℕ) → 1 ≤ p → blank_page p ≡ gate_page p → ⊥
blank_is_no_gate zero le e = absurd (omega arith)
blank_is_no_gate (suc p) le e = cc e

pub slot_keeps_sound : (p pages : ℕ) (h : SlotHead) (content : List ℕ) (step : SlotStep) (old new : SlotBytes) → 16 ≤ p → IsSoundSlot p old → HasCome p pages h content step old → StepLeaves step old new
    → (step ≡ Gate → IsSlotHead p (slot_head_page p h) h) → IsSoundSlot p new
slot_keeps_sound p pages h content EraseHead old new le sound come leaves head gate = torn_slot_heads_stay_sound old.head new.head (sound (torn_gates_were_gates p old.gate new.gate leaves.1 gate)) leaves.0
slot_keeps_sound p pages h content EraseBody old new le sound come leaves head gate = subst IsSoundSlotHead (sym leaves.0) (sound (sym leaves.1 ∙ gate))
slot_keeps_sound p pages h content (Body i) old new le sound come leaves head gate = subst IsSoundSlotHead (sym leaves.0) (sound (sym leaves.1 ∙ gate))
slot_keeps_sound p pages h content Head old new le sound come leaves head gate = absurd (blank_is_no_gate p (omega arith) (sym come.1 ∙ sym leaves.0 ∙ gate))
slot_keeps_sound p pages h content Gate old new le sound come leaves head gate =
    let page : new.head ≡ slot_head_page p h = leaves.0 ∙ come.0 in
    let size : length new.head ≡ p = ap length page ∙ head_page_size p h le in
    inl (h, subst (λ (m : ℕ). IsSlotHead m new.head h) (sym size) (subst (λ (l : List ℕ). IsSlotHead p l h) (sym page) (head refl)))

same_which : (t s : Which) → (t ≡ s) ⊎ (t ≡ s → ⊥)
same_which Slot0 Slot0 = inl refl
same_which Slot0 Slot1 = inr (λ e. cc e)
same_which Slot1 Slot0 = inr (λ e. cc e)
same_which Slot1 Slot1 = inl refl

pub steps_keep_sound : StepsKeepSound
steps_keep_sound g n j s h content step old new of come leaves size sound i t lt =
    let is = steps_are_steps g.page (body_pages_of h.length g.page) h content step (slot_bytes g old j s) come in
    let Sound = λ (k : ℕ) (u : Which). IsSoundSlot g.page (slot_bytes g new k u) in
    let own = slot_keeps_sound g.page (body_pages_of h.length g.page) h content step (slot_bytes g old j s) (slot_bytes g new j s) of.legal.page_low (sound j s of.inside) come (steps_leave g n j s h content step old new of is leaves) (λ e. record { legal = of.head; page_is = refl }) in
    let others = λ (other : (i ≡ j) × (t ≡ s) → ⊥). subst (IsSoundSlot g.page) (sym (steps_touch_one_slot g n j s h content step old new of is leaves i t other)) (sound i t lt) in
    elim (cases_eq i j) [
      | inr apart ↦ others (λ e. apart e.0)
      | inl same ↦ elim (same_which t s) [
        | inr apart ↦ others (λ e. apart e.1)
        | inl which ↦ subst (λ (k : ℕ). Sound k t) (sym same) (subst (Sound j) (sym which) own)
      ]
    ]

-- A BLANK IMAGE
no_gate : (p n : ℕ) → 1 ≤ p → take p (replicate n 255) ≡ gate_page p → ⊥
no_gate zero n le e = absurd (omega arith)
no_gate (suc p) zero le e = cc e
no_gate (suc p) (suc n) le e = cc e

pub blank_is_sound : BlankIsSound
blank_is_sound g n size le j s lt gate =
    absurd (no_gate g.page (size - _) (omega arith) (sym (ap (take g.page) (drop-replicate _ size 255)) ∙ gate))
