-- A switch of the small flash of the worked images: its bank 0 after the first write, and bank 1 as its target.
use Rattle.std.specs.Prelude.{ℕ, true, false, List, [], ◌∷◌, ◌++◌, replicate}
use Rattle.nv_base.specs.declared.mark.Mark.TheVariants.{Content}
use Rattle.fee_image.specs.Cases.{small, pages, counted_header, content_1, body}
use Rattle.nv_base.specs.Held.{never_written}
use Rattle.fee_image.specs.Image.{bank_in}
use Rattle.fee_image.specs.LogCases.{first_log}
use Rattle.fee_image.specs.Log.{Open}
use Rattle.fee_image.specs.May.{exactly}
use Rattle.fee_image.specs.Banks.{Old, OldBank, Phase, Banks}
use Rattle.fee_image.specs.Copies.{Flag}
use Rattle.fee_image.specs.BankLaws.{found_alone}

-- a bank with these first two pages and the first record
abbrev pub with_record : List ℕ → List ℕ → List ℕ
with_record head gate = head ++ gate ++ counted_header 1 ++ pages 1 0 ++ body content_1 ++ pages 1 0 ++ pages 6 0xff

-- a page 0 of format 2 by its low byte of the generation and its complement
abbrev pub head_of : ℕ → ℕ → List ℕ
head_of low guard = 0x42 ∷ 2 ∷ 0 ∷ 0 ∷ 0 ∷ low ∷ 0xbd ∷ 0xfd ∷ 0xff ∷ 0xff ∷ 0xff ∷ guard ∷ replicate 4 0xff

-- bank 0 with generation 1; bank 1 with generation 2 and a copy of the record, and this for its gate
abbrev pub sealing : List ℕ → List ℕ
sealing gate = with_record (head_of 1 0xfe) (pages 1 0) ++ with_record (head_of 2 0xfd) gate

-- the same without the copy
abbrev pub uncopied : List ℕ → List ℕ
uncopied gate = with_record (head_of 1 0xfe) (pages 1 0) ++ head_of 2 0xfd ++ gate ++ pages 10 0xff

-- both banks stand, with nothing behind their gates
abbrev pub stood : List ℕ → List ℕ → List ℕ
stood head head' = head ++ pages 1 0 ++ pages 10 0xff ++ head' ++ pages 1 0 ++ pages 10 0xff

abbrev pub first_old : Old
first_old = OldBank 0 (record { format = 2; generation = 1 }) (first_log Open)

-- nothing but what is found in these bytes may be found, and the target shows what its bytes do
abbrev pub in_switch : List ℕ → Phase → Banks
in_switch bytes phase = record { old = first_old; target = 1; phase = phase; may = found_alone small bytes; copied = exactly (bank_in small 2 1) bytes }

-- the number 128 with 4 bytes, which has a content, and the number 129 with 7, which has no record
abbrev pub flags : List Flag
flags =
    record { number = 128; length = 4; copied = false; written = true; settled = record { mark = Content content_1; count = 1 } }
    ∷ record { number = 129; length = 7; copied = false; written = false; settled = never_written } ∷ []
