-- Worked images on a small flash of two banks of 12 pages of 16 bytes.
use Rattle.std.specs.Prelude.{ℕ, true, ◌*◌, List, [], ◌∷◌, ◌++◌, replicate}
use Rattle.fee_format.specs.declared.rec_head.RecordKind.TheVariants.{Content}
use Rattle.fee_image.specs.Bank.{Bank}
use Rattle.fee_image.specs.Image.{Layout}
use Rattle.fee_image.specs.RecordList.{Rec}

abbrev pub small : Layout
small = record { page = 16; pages = 12; banks = 2 }

-- its bank 0
abbrev pub small_bank : Bank
small_bank = record { page = 16; pages = 12; format = 1; at = 0 }

-- three banks of such pages
abbrev pub ring : Layout
ring = record { page = 16; pages = 12; banks = 3 }

-- the same bank in format 2
abbrev pub new_bank : Bank
new_bank = record { page = 16; pages = 12; format = 2; at = 0 }

-- n pages of one byte
abbrev pub pages : ℕ → ℕ → List ℕ
pages n byte = replicate (n * 16) byte

-- a page 0 by its low byte of the generation and what stands at its complement's place: a bank head where they are
-- complements of each other
abbrev pub head_page : ℕ → ℕ → List ℕ
head_page low guard = 0x42 ∷ 1 ∷ 0 ∷ 0 ∷ 0 ∷ low ∷ 0xbd ∷ 0xfe ∷ 0xff ∷ 0xff ∷ 0xff ∷ guard ∷ replicate 4 0xff

-- a gate whose last bytes are still blank
abbrev pub torn_gate : List ℕ
torn_gate = replicate 9 0 ++ replicate 7 0xff

-- the header of a content of 4 bytes with number 128, whole and torn
abbrev pub header : List ℕ
header = 0x52 ∷ 1 ∷ 0 ∷ 0x80 ∷ 0 ∷ 4 ∷ replicate 10 0xff

abbrev pub torn_header : List ℕ
torn_header = 0x52 ∷ 1 ∷ 0 ∷ 0x80 ∷ replicate 12 0xff

abbrev pub content_1 : List ℕ
content_1 = 0x11 ∷ 0x22 ∷ 0x33 ∷ 0x44 ∷ []

abbrev pub content_2 : List ℕ
content_2 = 0x55 ∷ 0x66 ∷ 0x77 ∷ 0x88 ∷ []

-- its record
abbrev pub record_1 : Rec
record_1 = record { at = 2; head = record { number = record { 0 = 128 }; kind = Content; length = 4; count = 0 }; committed = true; payload = content_1 }

-- the page 0 of a bank of format 2 and generation 1, and the header of a write with this count
abbrev pub new_head_page : List ℕ
new_head_page = 0x42 ∷ 2 ∷ 0 ∷ 0 ∷ 0 ∷ 1 ∷ 0xbd ∷ 0xfd ∷ 0xff ∷ 0xff ∷ 0xff ∷ 0xfe ∷ replicate 4 0xff

abbrev pub counted_header : ℕ → List ℕ
counted_header count = 0x52 ∷ 1 ∷ 0 ∷ 0x80 ∷ 0 ∷ 4 ∷ 0 ∷ 0 ∷ 0 ∷ count ∷ replicate 6 0xff

-- a page that a content begins
abbrev pub body : List ℕ → List ℕ
body content = content ++ replicate 12 0xff

-- the first write of content_1, then four pages of a second one, and all else blank
abbrev pub after_first : List ℕ → List ℕ
after_first second = head_page 1 0xfe ++ pages 1 0 ++ header ++ pages 1 0 ++ body content_1 ++ pages 1 0 ++ second ++ pages 14 0xff

-- the same first write in format 2
abbrev pub after_new : List ℕ → List ℕ
after_new second = new_head_page ++ pages 1 0 ++ counted_header 1 ++ pages 1 0 ++ body content_1 ++ pages 1 0 ++ second ++ pages 14 0xff

-- two banks with these pages 0 and with open gates, and nothing else
abbrev pub two_banks : List ℕ → List ℕ → List ℕ
two_banks head head' = head ++ pages 1 0 ++ pages 10 0xff ++ head' ++ pages 1 0 ++ pages 10 0xff

-- the same banks, and a third one
abbrev pub three_banks : List ℕ → List ℕ → List ℕ → List ℕ
three_banks head head' head'' = two_banks head head' ++ head'' ++ pages 1 0 ++ pages 10 0xff
