-- The room that the banks keep while a switch is open.
use Rattle.std.specs.Prelude.{◌≡◌, ◌<◌, ◌≤◌, ◌+◌, ℕ, Bool, false, if◌then◌else◌, List, ◌∷◌, slice_get, Some, IfSome}
use Rattle.nv_base.specs.declared.instance.DeviceNumber.{DeviceNumber}
use Rattle.nv_base.specs.Geometry.{pages_of_bank}
use Rattle.nv_base.specs.Pages.{record_pages_of}
use Rattle.fee_format.specs.Formats.{new_format}
use Rattle.fee_format.specs.declared.rec_head.RecHead.{RecHead}
use Rattle.fee_image.specs.RecordList.{pages_of_head}
use Rattle.fee_log.specs.declared.tail.Tail.TheVariants.{Open, Writes}
use Rattle.fee_log.specs.Index.{clear_flags}
use Rattle.fee_log.specs.Log.{work_in, taken_in, erased_state}
use Rattle.fee_course.specs.declared.course.Copying.{Copying}
use Rattle.fee_course.specs.declared.course.Course.{Course}
use Rattle.fee_course.specs.declared.course.Course.TheVariants.{Erase, Copy}
use Rattle.fee_course.specs.Copies.{as_copied}
use Rattle.fee_course.specs.Course.{copied_by}
use Rattle.fee_switch.specs.Banks.{BanksState, TakesRecord, is_worn_out}
use Rattle.fee_switch_laws.specs.Turns.{IsGoing}
use Rattle.fee_switch_laws.specs.Space.{HasSpace, all_pages, most_pages, free_pages}

-- THE TARGET'S LOG
-- the copy in work is of the number at its place in the list, no longer than that, and has as many pages left as the course says
pub record IsOpenCopy (s : BanksState) (w : Copying) : Type 0 where
  pub head : RecHead
  pub done : ℕ
  pub tail : s.copies.tail ≡ Writes head done
  pub length : ℕ
  pub named : slice_get s.log.numbers w.index ≡ Some (head.number, length)
  pub fits : head.length ≤ length
  pub pages : done + w.pages ≡ pages_of_head s.geometry.page head

abbrev pub HasCopy : BanksState → Course → Type 0
HasCopy s (Copy (Some w)) = IsOpenCopy s w
HasCopy s _ = s.copies.tail ≡ Open

-- it is in the format that is written, none of its flags is set, and a record is in work in it exactly where the course says so
pub record IsTargetLog (s : BanksState) (course : Course) : Type 0 where
  pub format : s.copies.format ≡ new_format
  pub clear : s.copies.flags ≡ clear_flags s.copies.numbers
  pub work : HasCopy s course

-- while the target is erased it is empty, and no number is copied
pub record IsEmptyTarget (s : BanksState) : Type 0 where
  pub copies : s.copies ≡ erased_state s.geometry s.banks s.target s.copies.numbers
  pub clear : s.log.flags ≡ clear_flags s.log.numbers

abbrev pub HasTarget : BanksState → Course → Type 0
HasTarget s (Erase done) = IsEmptyTarget s
HasTarget s course = IsTargetLog s course

-- PAGES
-- the pages of the numbers without a copy at their full lengths, with a record or not: an urgent write may come
abbrev pub uncopied_pages : ℕ → List (DeviceNumber × ℕ) → List Bool → ℕ
uncopied_pages p (n ∷ ns) (copied ∷ flags) = (if copied then 0 else record_pages_of n.1 p) + uncopied_pages p ns flags
uncopied_pages p _ _ = 0

-- the flags once the copy in work is done
abbrev pub flags_due : Course → List Bool → List Bool
flags_due (Copy work) flags = as_copied (copied_by work) flags
flags_due _ flags = flags

-- the pages of the target that are taken: those of its log, and of the copy in work
abbrev pub taken_pages : BanksState → ℕ
taken_pages s = s.copies.end + taken_in s.geometry.page s.copies.tail

-- AN OPEN SWITCH
-- The target has room for the copies to come, for what urgent writes may add to them while the old bank has pages free, and
-- for the record that waits.
pub record IsRoomy (reserve : ℕ) (s : BanksState) (course : Course) : Type 0 where
  pub going : IsGoing s course
  pub worn : is_worn_out s.active ≡ false
  pub target : HasTarget s course
  -- a record in work in the active log is a content, and none is while the target is sealed
  pub work : IfSome (work_in s.log.tail) (λ h. TakesRecord h.kind (Some course))
  -- the record that waits has no room in the old bank
  pub few : free_pages s < most_pages s.geometry.page s.log.numbers reserve
  pub room : taken_pages s + uncopied_pages s.geometry.page s.log.numbers (flags_due course s.log.flags) + free_pages s
      + most_pages s.geometry.page s.log.numbers reserve ≤ pages_of_bank s.geometry s.banks
  -- no more of it is taken than its head and gate, a copy of each number, and fewer pages than a record may ask for
  pub taken : taken_pages s + uncopied_pages s.geometry.page s.log.numbers (flags_due course s.log.flags) + free_pages s
      ≤ 1 + all_pages s.geometry.page s.log.numbers + most_pages s.geometry.page s.log.numbers reserve

-- AT ANY TIME
pub record KeepsRoom (reserve : ℕ) (s : BanksState) : Type 0 where
  pub space : HasSpace s.log.numbers s.geometry s.banks reserve
  pub switch : IfSome s.course (IsRoomy reserve s)
