-- The log of one bank in memory, and what the bank's pages hold of it.
use Rattle.std.specs.Prelude.{◌≡◌, ◌<◌, ◌≤◌, ◌+◌, ◌-◌, ℕ, List}
use Rattle.nv_base.specs.declared.instance.DeviceNumber.{DeviceNumber}
use Rattle.fee_format.specs.declared.rec_head.RecHead.{RecHead}
use Rattle.fee_image.specs.Append.{Staged}
use Rattle.fee_image.specs.Bank.{Bank}
use Rattle.fee_image.specs.RecordList.{Rec, IsTailBlank, end_of, pages_of_head}
use Rattle.fee_image.specs.declared.place.Place.{Place}
use Rattle.fee_image.specs.May.{May, Shows, MayCommit}
use Rattle.fee_image.specs.Places.{ArePlaced}

-- IN MEMORY
-- what stands behind a log's records
pub data Tail : Type 0 where
  -- blank pages: the next record may begin
  Open : Tail
  -- so many pages of a record in work, and then blank ones
  Writes : (head : RecHead) → (body : List ℕ) → (done : ℕ) → Tail
  -- the header of a record that was given up before its header gate, which must come before the next record
  Owes : (head : RecHead) → Tail
  -- anything: nothing is appended any more
  Closed : Tail

pub record Log : Type 0 where
  -- the page where the next record begins, or the one that is in work or owes its gate
  pub end : ℕ
  pub tail : Tail
  -- where the last record of each number stands, in the order of the numbers
  pub places : List Place

-- the free pages, of a bank of so many: those behind the record that is in work or owes its gate, none where it is closed
abbrev pub free_behind : ℕ → ℕ → ℕ → Tail → ℕ
free_behind p pages end Open = pages - end
free_behind p pages end (Writes h body done) = pages - (end + pages_of_head p h)
free_behind p pages end (Owes h) = pages - (end + pages_of_head p h)
free_behind p pages end Closed = 0

abbrev pub free_of : Bank → Log → ℕ
free_of b log = free_behind b.page b.pages log.end log.tail

-- ON THE PAGES
-- the bank's records end here, and all behind is blank
pub record IsOpen (b : Bank) (bytes : List ℕ) (end : ℕ) : Type 0 where
  pub is_end : end ≡ end_of b bytes
  pub blank : IsTailBlank b bytes end

-- so many pages of a record stand, the last one isn't done, and its mark may be found
pub record IsWriting (b : Bank) (bytes : List ℕ) (may : May) (end : ℕ) (h : RecHead) (body : List ℕ) (done : ℕ) : Type 0 where
  pub records : List Rec
  pub staged : Staged b bytes records end h body done
  pub left : done < pages_of_head b.page h
  pub commit : MayCommit may h body

-- the header alone stands of a record
pub record IsOwing (b : Bank) (bytes : List ℕ) (end : ℕ) (h : RecHead) : Type 0 where
  pub records : List Rec
  pub body : List ℕ
  pub staged : Staged b bytes records end h body 1

abbrev pub HasTail : Bank → List ℕ → May → ℕ → Tail → Type 0
HasTail b bytes may end Open = IsOpen b bytes end
HasTail b bytes may end (Writes h body done) = IsWriting b bytes may end h body done
HasTail b bytes may end (Owes h) = IsOwing b bytes end h
HasTail b bytes may end Closed = Unit {0}

-- a bank's pages hold a log: what the bank shows may be found, its tail is the log's, and each number's place shows a
-- mark that may be found
pub record HoldsLog (b : Bank) (numbers : List (DeviceNumber × ℕ)) (bytes : List ℕ) (may : May) (log : Log) : Type 0 where
  pub low : 2 ≤ log.end
  pub high : log.end ≤ b.pages
  pub shows : Shows b bytes may
  pub tail : HasTail b bytes may log.end log.tail
  pub placed : ArePlaced b bytes may log.end numbers log.places
