-- How far a switch has come, and how many turns are left of it.
use Rattle.std.specs.Prelude.{◌≡◌, ◌<◌, ◌≤◌, ◌+◌, ◌-◌, ◌==◌, ◌&&◌, ℕ, Bool, true, false, if◌then◌else◌, is_some, List, Option, Some, None}
use Rattle.nv_base.specs.declared.instance.DeviceNumber.{DeviceNumber}
use Rattle.nv_base.specs.Pages.{record_pages_of}
use Rattle.fee_image.specs.declared.place.Place.{Place}
use Rattle.fee_image.specs.declared.place.Place.TheVariants.{Content}
use Rattle.fee_course.specs.declared.copies.Source.{Source}
use Rattle.fee_course.specs.declared.course.Copying.{Copying}
use Rattle.fee_course.specs.declared.course.Course.{Course}
use Rattle.fee_course.specs.declared.course.Course.TheVariants.{Erase, Copy, Head, Gate}
use Rattle.fee_course.specs.Copies.{next_copy, copies_left, as_copied, as_cleared, as_appended, copies_most, greatest}

-- WHAT COMES BEHIND AN OPERATION
-- a copy is in work: of a content, which was read, all pages of its record are left, of a mark all but the first
abbrev pub pages_begun : ℕ → ℕ → Place → ℕ
pages_begun p length (Content at count) = record_pages_of length p
pages_begun p length _ = record_pages_of 0 p - 1

abbrev pub begun : ℕ → Option Source → Course
begun p None = Head
begun p (Some s) = Copy (Some (record { index = s.index; pages = pages_begun p s.length s.place; sets = true }))

-- no copy is in work: the next one comes, or the head where none is left
abbrev pub settled : List (DeviceNumber × ℕ) → List Place → List Bool → Course
settled ns places copied = if is_some (next_copy ns places copied) then Copy None else Head

-- a page of the copy in work is done
abbrev pub page_done : List (DeviceNumber × ℕ) → List Place → List Bool → Copying → Course
page_done ns places copied w = if w.pages == 1 then settled ns places copied else Copy (Some (record w { pages = w.pages - 1 }))

-- the next operation is done: an erase, the first one of a copy, a page of it, or the head
abbrev pub after_done : ℕ → ℕ → List (DeviceNumber × ℕ) → List Place → List Bool → Course → Course
after_done p sectors ns places copied (Erase done) = if done + 1 == sectors then settled ns places copied else Erase (done + 1)
after_done p sectors ns places copied (Copy None) = begun p (next_copy ns places copied)
after_done p sectors ns places copied (Copy (Some w)) = page_done ns places copied w
after_done p sectors ns places copied Head = Gate false
after_done p sectors ns places copied (Gate failed) = Gate failed

-- the number whose flag is set then: the one that is copied, at the last page, unless an append to it began meanwhile
abbrev pub flag_due : Course → Option ℕ
flag_due (Copy (Some w)) = if w.sets && (w.pages == 1) then Some w.index else None
flag_due _ = None

-- it failed: an erase and the gate are made again, and behind any other the first erase comes
abbrev pub after_failed : Course → Course
after_failed (Erase done) = Erase done
after_failed (Gate failed) = Gate true
after_failed _ = Erase 0

-- an append to a number has begun: a copy of it in work sets no flag
abbrev pub appended_to : ℕ → Course → Course
appended_to i (Copy (Some w)) = if w.index == i then Copy (Some (record w { sets = false })) else Copy (Some w)
appended_to i course = course

-- TURNS
-- the number that counts by the pages of the copy in work alone
abbrev pub copied_by : Option Copying → Option ℕ
copied_by None = None
copied_by (Some w) = if w.sets then Some w.index else None

abbrev pub pages_left : Option Copying → ℕ
pages_left None = 0
pages_left (Some w) = w.pages

-- those that are left, while a record is appended to a number, which counts as a content without a copy
abbrev pub turns_left : ℕ → ℕ → List (DeviceNumber × ℕ) → List Place → List Bool → Option ℕ → Course → ℕ
turns_left p sectors ns places copied appended (Erase done) = (sectors - done) + copies_left p ns (as_appended appended places) (as_cleared appended copied) + 2
turns_left p sectors ns places copied appended (Copy work) =
    copies_left p ns (as_appended appended places) (as_cleared appended (as_copied (copied_by work) copied)) + pages_left work + 2
turns_left p sectors ns places copied appended Head = 2
turns_left p sectors ns places copied appended (Gate failed) = 1

-- those of the greatest switch: the sectors of a bank, a copy of each number, the pages of one more record, head and gate
abbrev pub most_turns : ℕ → ℕ → List (DeviceNumber × ℕ) → ℕ
most_turns p sectors ns = sectors + copies_most p ns + greatest p ns + 2

-- UNDER WAY
-- fewer sectors are erased than there are, and of a copy in work a page is left
abbrev pub IsShort : ℕ → Course → Type 0
IsShort sectors (Erase done) = done < sectors
IsShort sectors (Copy (Some w)) = 0 < w.pages
IsShort sectors _ = Unit {0}

-- and the head and the gate come where no copy is left, and only there
abbrev pub IsFitting : List (DeviceNumber × ℕ) → List Place → List Bool → Course → Type 0
IsFitting ns places copied (Copy None) = is_some (next_copy ns places copied) ≡ true
IsFitting ns places copied Head = next_copy ns places copied ≡ None
IsFitting ns places copied (Gate failed) = next_copy ns places copied ≡ None
IsFitting ns places copied _ = Unit {0}

-- the pages of a copy are no more than the greatest record's
abbrev pub IsFew : ℕ → List (DeviceNumber × ℕ) → Course → Type 0
IsFew p ns (Copy (Some w)) = w.pages ≤ greatest p ns
IsFew p ns _ = Unit {0}

pub record IsUnderWay (p sectors : ℕ) (ns : List (DeviceNumber × ℕ)) (places : List Place) (copied : List Bool) (course : Course) : Type 0 where
  pub short : IsShort sectors course
  pub fitting : IsFitting ns places copied course
  pub few : IsFew p ns course
