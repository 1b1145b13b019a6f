-- The reading of a device over slots, from its slots.
use Rattle.std.specs.Prelude.{IsTrue, ◌||◌, nat_lt, nat_le}
use Rattle.std.proofs.Common.{◌≡◌, inl, inr, ◌<◌, ◌≤◌, ◌+◌, ◌*◌, ℕ, zero, suc, List, [], ◌∷◌, length, refl, sym, subst, arith}
use Rattle.std.proofs.Math.Nat.{mul-le-mul_right}
use Rattle.std.proofs.lemmas.Bool.{cases_order}
use Rattle.nv_base.specs.declared.geometry.Geometry.{Geometry}
use Rattle.promise_device.specs.Image.{attached}
use Rattle.promise_device.specs.Reading.{AttachesSound}
use Rattle.fls_model.specs.Attach.{enlarged}
use Rattle.nv_base.specs.Geometry.{size_of}
use Rattle.fee_format.proofs.Tests.{lt_is, le_is, either}
use Rattle.ea_image.specs.declared.which.Which.{Which}
use Rattle.ea_image.specs.declared.which.Which.TheVariants.{Slot0, Slot1}
use Rattle.ea_image.specs.declared.slot_head.SlotHead.{SlotHead}
use Rattle.ea_image.specs.declared.step.SlotStep.{SlotStep}
use Rattle.ea_image.specs.declared.step.SlotStep.TheVariants.{EraseHead, EraseBody, Body, Head, Gate}
use Rattle.ea_image.specs.Slots.{SlotBytes, head_sector, is_sound_image}
use Rattle.ea_image.specs.Steps.{step_op, IsStepOf}
use Rattle.ea_image.specs.Laws.{IsSlotOf}
use Rattle.ea_image.proofs.Bodies.{bodies_fit}
use Rattle.fee_format.specs.Pages.{body_pages_of}
use Rattle.ea_told.specs.Making.{Making}
use Rattle.ea_told.specs.Reading.{reading_of, begins_at}

-- slots of which nothing changed
pub slots_path : (old new : Which → SlotBytes) → ((w : Which) → new w ≡ old w) → new ≡ old
slots_path old new same = λ i. λ w. same w i

-- a step begins in its own number's sectors, and so in no other's
sector_of : (g : Geometry) (j : ℕ) (s : Which) (q z : ℕ) → q < z → z ≡ g.sector → (4 * j * g.sector ≤ head_sector j s * g.sector + q) × (head_sector j s * g.sector + g.sector + q < (4 * j + 4) * g.sector)
sector_of g j Slot0 q z lt is =
    let e : (4 * j + 4) * g.sector ≡ 4 * j * g.sector + 4 * g.sector = grind arith in
    (omega arith, omega (arith, e, is))
sector_of g j Slot1 q z lt is =
    let e : (4 * j + 4) * g.sector ≡ 4 * j * g.sector + 4 * g.sector = grind arith in
    let f : (4 * j + 2) * g.sector ≡ 4 * j * g.sector + 2 * g.sector = grind arith in
    (omega (arith, f), omega (arith, e, f, is))

pub step_begins : (g : Geometry) (n j : ℕ) (s : Which) (h : SlotHead) (content : List ℕ) (step : SlotStep) → IsSlotOf g n j h content → IsStepOf (body_pages_of h.length g.page) step
    → (4 * j * g.sector ≤ begins_at (step_op g j s h content step)) × (begins_at (step_op g j s h content step) < (4 * j + 4) * g.sector)
step_begins g n j s h content EraseHead of is =
    let w = sector_of g j s 0 g.sector (omega (arith, of.legal.sector_low, of.legal.page_low)) refl in (omega (arith, w.0), omega (arith, w.1))
step_begins g n j s h content EraseBody of is =
    let w = sector_of g j s 0 g.sector (omega (arith, of.legal.sector_low, of.legal.page_low)) refl in
    let e : (head_sector j s + 1) * g.sector ≡ head_sector j s * g.sector + g.sector = grind arith in
    (omega (arith, w.0, e), omega (arith, w.1, e))
step_begins g n j s h content (Body i) of is =
    let fits = bodies_fit h.length g.page g.sector i (omega (arith, of.legal.page_low)) of.legal.whole_pages of.few is in
    let w = sector_of g j s (i * g.page) g.sector (omega (arith, fits, of.legal.page_low)) refl in
    let e : (head_sector j s + 1) * g.sector ≡ head_sector j s * g.sector + g.sector = grind arith in
    (omega (arith, w.0, e), omega (arith, w.1, e))
step_begins g n j s h content Head of is =
    let w = sector_of g j s 0 g.sector (omega (arith, of.legal.sector_low, of.legal.page_low)) refl in (omega (arith, w.0), omega (arith, w.1))
step_begins g n j s h content Gate of is =
    let w = sector_of g j s g.page g.sector (omega (arith, of.legal.sector_low, of.legal.page_low)) refl in (omega (arith, w.0), omega (arith, w.1))

pub apart_is : (g : Geometry) (i j a : ℕ) → (i ≡ j → ⊥) → 4 * j * g.sector ≤ a → a < (4 * j + 4) * g.sector → IsTrue (nat_lt a (4 * i * g.sector) || nat_le ((4 * i + 4) * g.sector) a)
apart_is g i j a other low high =
    let test = either (nat_lt a (4 * i * g.sector)) (nat_le ((4 * i + 4) * g.sector) a) (a < 4 * i * g.sector) ((4 * i + 4) * g.sector ≤ a) (lt_is a (4 * i * g.sector)) (le_is ((4 * i + 4) * g.sector) a) in
    test.1 (elim (cases_order i j) [
      | inl same ↦ absurd (other same)
      | inr (inl less) ↦ let le = mul-le-mul_right g.sector (let t : 4 * i + 4 ≤ 4 * j = omega arith in t) in inr (omega (arith, le))
      | inr (inr more) ↦ let le = mul-le-mul_right g.sector (let t : 4 * j + 4 ≤ 4 * i = omega arith in t) in inl (omega (arith, le))
    ])

-- SOUND
attach_twice : (g : Geometry) (image : List ℕ) → attached g (attached g image) ≡ attached g image
attach_twice g [] = enlarged_blank (size_of g)
  where
    enlarged_blank : (n : ℕ) → enlarged n (enlarged n []) ≡ enlarged n []
    enlarged_blank zero = refl
    enlarged_blank (suc n) = refl
attach_twice g (x ∷ xs) = refl

pub slots_attach_sound : (m : Making) → AttachesSound (reading_of m)
slots_attach_sound m image sound = subst (λ (b : List ℕ). IsTrue (is_sound_image m.geometry (length m.numbers) b)) (sym (attach_twice m.geometry image)) sound
