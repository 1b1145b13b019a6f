-- Worked slots on a small flash of four sectors of 64 bytes, whose pages have 16.
use Rattle.std.specs.Prelude.{ℕ, ◌*◌, List, [], ◌∷◌, ◌++◌, replicate}
use Rattle.nv_base.specs.declared.geometry.Geometry.{Geometry}
use Rattle.fee_format.specs.declared.rec_head.RecordKind.TheVariants.{Content}
use Rattle.ea_image.specs.declared.slot_head.SlotHead.{SlotHead}

abbrev pub small : Geometry
small = record { page = 16; sector = 64; sectors = 4 }

-- n pages of one byte
abbrev pub pages : ℕ → ℕ → List ℕ
pages n byte = replicate (n * 16) byte

-- the head of a content of 4 bytes by the low byte of its sequence and what stands at its complement's place: a head where
-- they are complements of each other
abbrev pub head_page : ℕ → ℕ → List ℕ
head_page low guard = 0x45 ∷ 1 ∷ 0 ∷ 4 ∷ 0 ∷ 0 ∷ 0 ∷ low ∷ 0xba ∷ 0xfe ∷ 0xff ∷ 0xfb ∷ 0xff ∷ 0xff ∷ 0xff ∷ guard ∷ []

abbrev pub head : ℕ → SlotHead
head sequence = record { kind = Content; length = 4; sequence = sequence }

abbrev pub content_1 : List ℕ
content_1 = 0x11 ∷ 0x22 ∷ 0x33 ∷ 0x44 ∷ []

abbrev pub content_2 : List ℕ
content_2 = 0x55 ∷ 0x66 ∷ 0x77 ∷ 0x88 ∷ []

-- a gate whose last bytes are still blank
abbrev pub torn_gate : List ℕ
torn_gate = replicate 9 0 ++ replicate 7 0xff

-- the two sectors of a slot with this head, this gate and this content
abbrev pub slot : List ℕ → List ℕ → List ℕ → List ℕ
slot first gate content = first ++ gate ++ pages 2 0xff ++ content ++ replicate 12 0xff ++ pages 3 0xff

-- a slot of which nothing is written
abbrev pub blank_slot : List ℕ
blank_slot = pages 8 0xff

-- the first write, and one more behind it
abbrev pub first : List ℕ
first = slot (head_page 1 0xfe) (pages 1 0) content_1
