-- The changing operations of a flash, and what a cut before or within one may leave.
use Rattle.std.specs.Prelude.{ℕ, ◌-◌, List, ◌++◌, length, take, replicate}
use Rattle.fls_model.specs.Bytes.{piece, spliced, and_bytes, AreBytes, SameOutside, Grown}

pub data Op : Type 0 where
  Program : (address : ℕ) → (page : List ℕ) → Op
  Erase : (address : ℕ) → (length : ℕ) → Op

-- the bytes after an operation that was done: old AND new in a programmed page, 0xFF in an erased sector
abbrev pub after_op : Op → List ℕ → List ℕ
after_op (Program address page) bytes = spliced bytes address (and_bytes (piece address (length page) bytes) page)
after_op (Erase address n) bytes = spliced bytes address (replicate n 255)

-- what a cut before or within an operation may leave: any bytes in the page that it programs, in the sector that it
-- erases the old bits with any of the zero bits turned to one, and all else as it was. Bytes stay numbers of eight bits.
abbrev pub MayLeave : Op → List ℕ → List ℕ → Type 0
MayLeave (Program address page) old new = SameOutside address (length page) old new × (AreBytes old → AreBytes new)
MayLeave (Erase address n) old new = SameOutside address n old new × Grown (piece address n old) (piece address n new)

-- WHERE SO MANY BYTES OF ONE ARE LET BE DONE

-- the first bytes of a page, filled up with 0xFF, which clears no bit
abbrev pub kept_page : ℕ → List ℕ → List ℕ
kept_page keep page = take keep page ++ replicate (length page - keep) 255

-- what a flash is asked for: the first bytes of a program, all of an erase
abbrev pub part_of : ℕ → Op → Op
part_of keep (Program address page) = Program address (kept_page keep page)
part_of keep (Erase address n) = Erase address n
