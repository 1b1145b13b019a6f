-- The slots of an image, and what each instance holds.
use Rattle.std.specs.Prelude.{◌<◌, ◌+◌, ◌*◌, ◌==◌, ◌&&◌, nat_lt, if◌then◌else◌, ℕ, zero, suc, Bool, true, List, take, Option, Some, None}
use Rattle.nv_base.specs.declared.geometry.Geometry.{Geometry}
use Rattle.nv_base.specs.declared.mark.Mark.{Mark}
use Rattle.nv_base.specs.declared.mark.Mark.TheVariants as mark
use Rattle.nv_base.specs.Held.{Held, never_written}
use Rattle.fls_model.specs.Bytes.{piece}
use Rattle.fee_format.specs.declared.rec_head.RecordKind.{RecordKind}
use Rattle.fee_format.specs.declared.rec_head.RecordKind.TheVariants.{Content, Invalid, Erased}
use Rattle.fee_format.specs.Gate.{IsGate, is_gate}
use Rattle.ea_image.specs.declared.slot_head.SlotHead.{SlotHead}
use Rattle.ea_image.specs.declared.which.Which.{Which}
use Rattle.ea_image.specs.declared.which.Which.TheVariants.{Slot0, Slot1}
use Rattle.ea_image.specs.SlotHead.{slot_head_of, IsSoundSlotHead, is_sound_slot_head}

-- WHERE THEY LIE
abbrev pub other : Which → Which
other Slot0 = Slot1
other Slot1 = Slot0

-- the sectors of a slot of the j-th instance: its head's, and its body's behind it
abbrev pub head_sector : ℕ → Which → ℕ
head_sector j Slot0 = 4 * j
head_sector j Slot1 = 4 * j + 2

abbrev pub body_sector : ℕ → Which → ℕ
body_sector j s = head_sector j s + 1

-- where page q of a sector begins
abbrev pub place_of_page : Geometry → (sector q : ℕ) → ℕ
place_of_page g k q = k * g.sector + q * g.page

-- ONE SLOT
-- the bytes of its head, which is page 0 of its first sector, of its gate, page 1, and of its second sector
pub record SlotBytes : Type 0 where
  pub head : List ℕ
  pub gate : List ℕ
  pub body : List ℕ

abbrev pub slot_bytes : Geometry → List ℕ → (j : ℕ) → Which → SlotBytes
slot_bytes g image j s = record {
  head = piece (place_of_page g (head_sector j s) 0) g.page image;
  gate = piece (place_of_page g (head_sector j s) 1) g.page image;
  body = piece (place_of_page g (body_sector j s) 0) g.sector image;
}

-- a content has the length of the instance
abbrev pub fits_length : RecordKind → ℕ → ℕ → Bool
fits_length Content got length = got == length
fits_length Invalid got length = true
fits_length Erased got length = true

-- a head that says something of an instance of this length
abbrev pub fitting : ℕ → Option SlotHead → Option SlotHead
fitting length None = None
fitting length (Some h) = if fits_length h.kind h.length length then Some h else None

-- the head with which a slot of an instance of this length stands: it fits, and its gate is open
abbrev pub standing : (page length : ℕ) → SlotBytes → Option SlotHead
standing p length b = if is_gate p b.gate then fitting length (slot_head_of p b.head) else None

abbrev pub mark_shown : RecordKind → List ℕ → Mark
mark_shown Content bytes = mark.Content bytes
mark_shown Invalid bytes = mark.Invalid
mark_shown Erased bytes = mark.Erased

-- what a slot with this head says: its mark, counted by its sequence
abbrev pub held_by : SlotHead → (body : List ℕ) → Held
held_by h body = record { mark = mark_shown h.kind (take h.length body); count = h.sequence }

-- ONE INSTANCE
-- of two slots the one that counts: with the greater sequence, on a tie slot 0
abbrev pub newest : Option SlotHead → Option SlotHead → Option (Which × SlotHead)
newest None None = None
newest (Some a) None = Some (Slot0, a)
newest None (Some b) = Some (Slot1, b)
newest (Some a) (Some b) = if nat_lt a.sequence b.sequence then Some (Slot1, b) else Some (Slot0, a)

abbrev pub newest_of : (page length : ℕ) → (Which → SlotBytes) → Option (Which × SlotHead)
newest_of p length slots = newest (standing p length (slots Slot0)) (standing p length (slots Slot1))

abbrev pub held_as : (Which → SlotBytes) → Option (Which × SlotHead) → Held
held_as slots None = never_written
held_as slots (Some x) = held_by x.1 (slots x.0).body

-- what a start-up finds for an instance of this length in its slots
abbrev pub found_of : (page length : ℕ) → (Which → SlotBytes) → Held
found_of p length slots = held_as slots (newest_of p length slots)

-- and for the j-th instance of an image
abbrev pub found_at : Geometry → List ℕ → (j length : ℕ) → Held
found_at g image j length = found_of g.page length (slot_bytes g image j)

-- SOUND IMAGES
-- where the gate of a slot is open its head may stand before it
abbrev pub IsSoundSlot : ℕ → SlotBytes → Type 0
IsSoundSlot p b = IsGate p b.gate → IsSoundSlotHead b.head

-- so it is in each slot of n instances
abbrev pub IsSoundImage : Geometry → ℕ → List ℕ → Type 0
IsSoundImage g n image = (j : ℕ) (s : Which) → j < n → IsSoundSlot g.page (slot_bytes g image j s)

-- the same, computed
abbrev pub is_sound_slot : ℕ → SlotBytes → Bool
is_sound_slot p b = if is_gate p b.gate then is_sound_slot_head b.head else true

abbrev pub is_sound_image : Geometry → ℕ → List ℕ → Bool
is_sound_image g zero image = true
is_sound_image g (suc j) image = (is_sound_slot g.page (slot_bytes g image j Slot0) && is_sound_slot g.page (slot_bytes g image j Slot1)) && is_sound_image g j image
