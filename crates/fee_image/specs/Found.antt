-- What a bank holds for an instance.
use Rattle.std.specs.Prelude.{◌≡◌, ◌==◌, ◌&&◌, ℕ, Bool, true, if◌then◌else◌, List, [], ◌∷◌, Option, Some, None}
use Rattle.nv_base.specs.declared.mark.Mark.{Mark}
use Rattle.nv_base.specs.declared.mark.Mark.TheVariants.{Content, Invalid, Erased}
use Rattle.fee_format.specs.declared.rec_head.RecHead.{RecHead}
use Rattle.fee_format.specs.declared.rec_head.RecordKind.{RecordKind}
use Rattle.fee_format.specs.declared.rec_head.RecordKind.TheVariants as kind
use Rattle.fee_image.specs.Bank.{Bank}
use Rattle.nv_base.specs.Held.{Held, never_written}
use Rattle.fee_image.specs.RecordList.{Rec, IsLog, records_of}

-- a length of a record is the number's length, where it is a content
abbrev pub matches_length : RecordKind → ℕ → ℕ → Bool
matches_length kind.Content got length = got == length
matches_length kind.Invalid got length = true
matches_length kind.Erased got length = true

-- a record header is one of this number, and a content's length is the number's length
abbrev pub fits : ℕ → ℕ → RecHead → Bool
fits number length h = (h.number.0 == number) && matches_length h.kind h.length length

-- a record counts where it is committed and fits
abbrev pub counts : ℕ → ℕ → Rec → Bool
counts number length r = r.committed && fits number length r.head

-- the last record that counts, or this one where there is none
abbrev pub last_from : ℕ → ℕ → Option Rec → List Rec → Option Rec
last_from number length last [] = last
last_from number length last (r ∷ rs) = last_from number length (if counts number length r then Some r else last) rs

-- the last record that counts for a number of this length
abbrev pub last_record : ℕ → ℕ → List Rec → Option Rec
last_record number length records = last_from number length None records

-- the mark of a record of a kind with this content
abbrev pub mark_of_kind : RecordKind → List ℕ → Mark
mark_of_kind kind.Content payload = Content payload
mark_of_kind kind.Invalid payload = Invalid
mark_of_kind kind.Erased payload = Erased

abbrev pub mark_of : Rec → Mark
mark_of r = mark_of_kind r.head.kind r.payload

-- and with its count
abbrev pub held_of : Rec → Held
held_of r = record { mark = mark_of r; count = r.head.count }

-- what that record shows; nothing was written where there is none
abbrev pub held_shown : Option Rec → Held
held_shown None = never_written
held_shown (Some r) = held_of r

abbrev pub last_held : ℕ → ℕ → List Rec → Held
last_held number length records = held_shown (last_record number length records)

-- what a start-up finds for a number of this length in a bank that stands
pub record IsFound (b : Bank) (bytes : List ℕ) (number length : ℕ) (held : Held) : Type 0 where
  pub records : List Rec
  pub end : ℕ
  pub log : IsLog b bytes records end
  pub is : held ≡ last_held number length records

-- the same, computed
abbrev pub shown_in : Bank → List ℕ → ℕ → ℕ → Held
shown_in b bytes number length = last_held number length (records_of b bytes)
