-- Where the steps of a write reach.
use Rattle.std.proofs.Common.{◌≡◌, ◌⊎◌, inl, inr, ◌<◌, ◌≤◌, ℕ, zero, suc, ◌+◌, ◌*◌, ◌-◌, List, length, refl, sym, subst, arith}
use Rattle.std.proofs.lemmas.Bool.{cases_order}
use Rattle.std.proofs.lemmas.List.{length-replicate}
use Rattle.std.proofs.Math.Nat.{mul-le-mul_right}
use Rattle.nv_base.specs.declared.geometry.Geometry.{Geometry}
use Rattle.fls_model.specs.Bytes.{SameOutside, piece}
use Rattle.fee_format.specs.Pages.{gate_page, body_pages_of}
use Rattle.fee_format.specs.RecordPages.{body_page}
use Rattle.ea_image.specs.declared.slot_head.SlotHead.{SlotHead}
use Rattle.ea_image.specs.declared.which.Which.{Which}
use Rattle.ea_image.specs.declared.which.Which.TheVariants.{Slot0, Slot1}
use Rattle.ea_image.specs.declared.step.SlotStep.TheVariants.{EraseHead, EraseBody, Body, Head, Gate}
use Rattle.ea_image.specs.SlotHead.{slot_head_page}
use Rattle.ea_image.specs.Slots.{slot_bytes, head_sector, body_sector, place_of_page}
use Rattle.ea_image.specs.Laws.{IsSlotOf, StepsTouchOneSlot, StepsLeave}
use Rattle.ea_image.proofs.Bodies.{body_page_size, bodies_fit}
use Rattle.ea_image.proofs.Pieces.{pieces_stay, grown_piece}

-- RANGES OF SECTORS
pub record IsIn (g : Geometry) (k a n : ℕ) : Type 0 where
  pub low : k * g.sector ≤ a
  pub high : a + n ≤ k * g.sector + g.sector

before : (z i k : ℕ) → i < k → i * z + z ≤ k * z
before z i k lt = let le = mul-le-mul_right z (let t : suc i ≤ k = lt in t) in let one : suc i * z ≡ i * z + z = omega arith in omega (arith, le, one)

pub beside : (g : Geometry) (k l a n b m : ℕ) → IsIn g k a n → IsIn g l b m → (l ≡ k → ⊥) → (b + m ≤ a) ⊎ (a + n ≤ b)
beside g k l a n b m one two other = elim (cases_order l k) [
  | inl same ↦ absurd (other same)
  | inr (inl less) ↦ inl (omega (arith, before g.sector l k less, one.low, two.high))
  | inr (inr more) ↦ inr (omega (arith, before g.sector k l more, one.high, two.low))
]

-- SECTORS OF SLOTS
-- heads of one slot, bodies of one slot, and never a head and a body
same_sectors : (i j : ℕ) (t s : Which) → head_sector i t ≡ head_sector j s → (i ≡ j) × (t ≡ s)
same_sectors i j Slot0 Slot0 e = (omega (arith, e), refl)
same_sectors i j Slot0 Slot1 e = absurd (omega (arith, e))
same_sectors i j Slot1 Slot0 e = absurd (omega (arith, e))
same_sectors i j Slot1 Slot1 e = (omega (arith, e), refl)

head_is_no_body : (i j : ℕ) (t s : Which) → head_sector i t ≡ body_sector j s → ⊥
head_is_no_body i j Slot0 Slot0 e = absurd (omega (arith, e))
head_is_no_body i j Slot0 Slot1 e = absurd (omega (arith, e))
head_is_no_body i j Slot1 Slot0 e = absurd (omega (arith, e))
head_is_no_body i j Slot1 Slot1 e = absurd (omega (arith, e))

pub sector_inside : (n j : ℕ) (s : Which) → j < n → head_sector j s + 2 ≤ 4 * n
sector_inside n j Slot0 lt = omega arith
sector_inside n j Slot1 lt = omega arith

-- the pages of a head's sector
page_in : (g : Geometry) (k q : ℕ) → q < 2 → 4 * g.page ≤ g.sector → IsIn g k (place_of_page g k q) g.page
page_in g k zero lt le = record { low = omega arith; high = omega arith }
page_in g k (suc zero) lt le = record { low = omega arith; high = omega arith }
page_in g k (suc (suc q)) lt le = absurd (omega arith)

whole_in : (g : Geometry) (k : ℕ) → IsIn g k (place_of_page g k 0) g.sector
whole_in g k = record { low = omega arith; high = omega arith }

-- of a slot of which no sector changed
slot_same : (g : Geometry) (old new : List ℕ) (i : ℕ) (t : Which)
    → piece (place_of_page g (head_sector i t) 0) g.page new ≡ piece (place_of_page g (head_sector i t) 0) g.page old
    → piece (place_of_page g (head_sector i t) 1) g.page new ≡ piece (place_of_page g (head_sector i t) 1) g.page old
    → piece (place_of_page g (body_sector i t) 0) g.sector new ≡ piece (place_of_page g (body_sector i t) 0) g.sector old
    → slot_bytes g new i t ≡ slot_bytes g old i t
slot_same g old new i t head gate body = λ x. record { head = head x; gate = gate x; body = body x }

-- A CHANGE IN ONE SECTOR
module _ (g : Geometry) (old new : List ℕ) (k a n : ℕ) (pages : 4 * g.page ≤ g.sector) (inside : IsIn g k a n) (out : SameOutside a n old new) where
  pub head_stays : (l : ℕ) → (l ≡ k → ⊥) → piece (place_of_page g l 0) g.page new ≡ piece (place_of_page g l 0) g.page old
  head_stays l other = pieces_stay a n (place_of_page g l 0) g.page old new out (beside g k l a n (place_of_page g l 0) g.page inside (page_in g l 0 (omega arith) pages) other)

  pub gate_stays : (l : ℕ) → (l ≡ k → ⊥) → piece (place_of_page g l 1) g.page new ≡ piece (place_of_page g l 1) g.page old
  gate_stays l other = pieces_stay a n (place_of_page g l 1) g.page old new out (beside g k l a n (place_of_page g l 1) g.page inside (page_in g l 1 (omega arith) pages) other)

  pub body_stays : (l : ℕ) → (l ≡ k → ⊥) → piece (place_of_page g l 0) g.sector new ≡ piece (place_of_page g l 0) g.sector old
  body_stays l other = pieces_stay a n (place_of_page g l 0) g.sector old new out (beside g k l a n (place_of_page g l 0) g.sector inside (whole_in g l) other)

-- in the sector of a head, and of a body
module _ (g : Geometry) (old new : List ℕ) (j : ℕ) (s : Which) (a n : ℕ) (pages : 4 * g.page ≤ g.sector) (out : SameOutside a n old new) where
  others_of_head : IsIn g (head_sector j s) a n → (i : ℕ) (t : Which) → ((i ≡ j) × (t ≡ s) → ⊥) → slot_bytes g new i t ≡ slot_bytes g old i t
  others_of_head inside i t other = slot_same g old new i t
      (head_stays g old new (head_sector j s) a n pages inside out (head_sector i t) (λ e. other (same_sectors i j t s e)))
      (gate_stays g old new (head_sector j s) a n pages inside out (head_sector i t) (λ e. other (same_sectors i j t s e)))
      (body_stays g old new (head_sector j s) a n pages inside out (body_sector i t) (λ e. head_is_no_body j i s t (sym e)))

  others_of_body : IsIn g (body_sector j s) a n → (i : ℕ) (t : Which) → ((i ≡ j) × (t ≡ s) → ⊥) → slot_bytes g new i t ≡ slot_bytes g old i t
  others_of_body inside i t other = slot_same g old new i t
      (head_stays g old new (body_sector j s) a n pages inside out (head_sector i t) (λ e. head_is_no_body i j t s e))
      (gate_stays g old new (body_sector j s) a n pages inside out (head_sector i t) (λ e. head_is_no_body i j t s e))
      (body_stays g old new (body_sector j s) a n pages inside out (body_sector i t) (λ e. other (same_sectors i j t s (omega (arith, e)))))

-- THE STEPS
pub head_page_size : (p : ℕ) (h : SlotHead) → 16 ≤ p → length (slot_head_page p h) ≡ p
head_page_size p h le = omega (arith, length-replicate {A = ℕ} (p - 16) 255)

head_in : (g : Geometry) (n j : ℕ) (s : Which) (h : SlotHead) (content : List ℕ) → IsSlotOf g n j h content → IsIn g (head_sector j s) (place_of_page g (head_sector j s) 0) (length (slot_head_page g.page h))
head_in g n j s h content of = subst (IsIn g (head_sector j s) (place_of_page g (head_sector j s) 0)) (sym (head_page_size g.page h of.legal.page_low)) (page_in g (head_sector j s) 0 (omega arith) of.legal.sector_low)

gate_in : (g : Geometry) (n j : ℕ) (s : Which) (h : SlotHead) (content : List ℕ) → IsSlotOf g n j h content → IsIn g (head_sector j s) (place_of_page g (head_sector j s) 1) (length (gate_page g.page))
gate_in g n j s h content of = subst (IsIn g (head_sector j s) (place_of_page g (head_sector j s) 1)) (sym (length-replicate g.page 0)) (page_in g (head_sector j s) 1 (omega arith) of.legal.sector_low)

body_in : (g : Geometry) (n j : ℕ) (s : Which) (h : SlotHead) (content : List ℕ) (i : ℕ) → IsSlotOf g n j h content → i < body_pages_of h.length g.page → IsIn g (body_sector j s) (place_of_page g (body_sector j s) i) (length (body_page g.page content i))
body_in g n j s h content i of lt =
    let fits = bodies_fit h.length g.page g.sector i (omega (arith, of.legal.page_low)) of.legal.whole_pages of.few lt in
    record { low = omega arith; high = omega (arith, fits, body_page_size g.page content i) }

erase_in : (g : Geometry) (k : ℕ) → IsIn g k (k * g.sector) g.sector
erase_in g k = record { low = omega arith; high = omega arith }

pub steps_touch_one_slot : StepsTouchOneSlot
steps_touch_one_slot g n j s h content EraseHead old new of is leaves i t other = others_of_head g old new j s (head_sector j s * g.sector) g.sector of.legal.sector_low leaves.0 (erase_in g (head_sector j s)) i t other
steps_touch_one_slot g n j s h content EraseBody old new of is leaves i t other = others_of_body g old new j s (body_sector j s * g.sector) g.sector of.legal.sector_low leaves.0 (erase_in g (body_sector j s)) i t other
steps_touch_one_slot g n j s h content (Body q) old new of is leaves i t other = others_of_body g old new j s (place_of_page g (body_sector j s) q) (length (body_page g.page content q)) of.legal.sector_low leaves.0 (body_in g n j s h content q of is) i t other
steps_touch_one_slot g n j s h content Head old new of is leaves i t other = others_of_head g old new j s (place_of_page g (head_sector j s) 0) (length (slot_head_page g.page h)) of.legal.sector_low leaves.0 (head_in g n j s h content of) i t other
steps_touch_one_slot g n j s h content Gate old new of is leaves i t other = others_of_head g old new j s (place_of_page g (head_sector j s) 1) (length (gate_page g.page)) of.legal.sector_low leaves.0 (gate_in g n j s h content of) i t other

no_body : (j : ℕ) (s : Which) → body_sector j s ≡ head_sector j s → ⊥
no_body j s e = head_is_no_body j j s s (sym e)

pub steps_leave : StepsLeave
steps_leave g n j s h content EraseHead old new of is leaves =
    let k = head_sector j s in (
      grown_piece (k * g.sector) g.sector (0 * g.page) g.page old new (omega (arith, of.legal.sector_low)) leaves.1,
      grown_piece (k * g.sector) g.sector (1 * g.page) g.page old new (omega (arith, of.legal.sector_low)) leaves.1,
      body_stays g old new k (k * g.sector) g.sector of.legal.sector_low (erase_in g k) leaves.0 (body_sector j s) (no_body j s),
    )
steps_leave g n j s h content EraseBody old new of is leaves =
    let k = body_sector j s in (
      head_stays g old new k (k * g.sector) g.sector of.legal.sector_low (erase_in g k) leaves.0 (head_sector j s) (head_is_no_body j j s s),
      gate_stays g old new k (k * g.sector) g.sector of.legal.sector_low (erase_in g k) leaves.0 (head_sector j s) (head_is_no_body j j s s),
    )
steps_leave g n j s h content (Body q) old new of is leaves =
    let k = body_sector j s in
    let inside = body_in g n j s h content q of is in (
      head_stays g old new k (place_of_page g k q) (length (body_page g.page content q)) of.legal.sector_low inside leaves.0 (head_sector j s) (head_is_no_body j j s s),
      gate_stays g old new k (place_of_page g k q) (length (body_page g.page content q)) of.legal.sector_low inside leaves.0 (head_sector j s) (head_is_no_body j j s s),
    )
steps_leave g n j s h content Head old new of is leaves =
    let k = head_sector j s in
    let size = head_page_size g.page h of.legal.page_low in (
      pieces_stay (place_of_page g k 0) (length (slot_head_page g.page h)) (place_of_page g k 1) g.page old new leaves.0 (inr (omega (arith, size))),
      body_stays g old new k (place_of_page g k 0) (length (slot_head_page g.page h)) of.legal.sector_low (head_in g n j s h content of) leaves.0 (body_sector j s) (no_body j s),
    )
steps_leave g n j s h content Gate old new of is leaves =
    let k = head_sector j s in (
      pieces_stay (place_of_page g k 1) (length (gate_page g.page)) (place_of_page g k 0) g.page old new leaves.0 (inl (omega arith)),
      body_stays g old new k (place_of_page g k 1) (length (gate_page g.page)) of.legal.sector_low (gate_in g n j s h content of) leaves.0 (body_sector j s) (no_body j s),
    )
