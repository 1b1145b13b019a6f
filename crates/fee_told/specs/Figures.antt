-- The figures of a device over banks: the most turns of its operations, and those of the work that is open.
use Rattle.std.specs.Prelude.{◌+◌, ◌≤◌, ℕ, min, Bool, true, false, if◌then◌else◌, List, map, Option, Some, None}
use Rattle.nv_base.specs.declared.instance.DeviceNumber.{DeviceNumber}
use Rattle.nv_base.specs.declared.mark.Mark.{Mark}
use Rattle.nv_base.specs.declared.mark.Mark.TheVariants.{Content, Invalid, Erased}
use Rattle.nv_base.specs.Pages.{record_pages_of}
use Rattle.memif.specs.Told.{Figures, First, Fixed, Stand, Open, Ended}
use Rattle.fee_course.specs.Course.{most_turns}

-- OPERATIONS
-- of a number of a length, where a switch takes so many turns at most: a read takes one; any other operation the pages of
-- its record, the gate that is owed before it, and a switch
abbrev pub figures_for : ℕ → ℕ → ℕ → Figures
figures_for p own length = record {
  part = First;
  pages = record_pages_of length p;
  read = 1;
  write = record_pages_of length p + 1 + own;
  invalidate = record_pages_of 0 p + 1 + own;
  erase = record_pages_of 0 p + 1 + own;
}

-- of pages of so many bytes, with so many sectors a bank
abbrev pub fixed_for : ℕ → ℕ → List (DeviceNumber × ℕ) → ℕ → Fixed
fixed_for p sectors numbers reserve = record {
  numbers = numbers;
  figures = map (λ n. figures_for p (most_turns p sectors numbers) n.1) numbers;
  reserve = reserve;
  own = most_turns p sectors numbers;
  two = false;
}

-- THE WORK THAT IS OPEN
pub record OpenWork : Type 0 where
  -- the pages of the open job's record that are still to be programmed, and whether a gate is owed before it
  pub pages : ℕ
  pub owed : Bool
  -- the turns of the switch that is open, or that the job needs
  pub switch : ℕ

abbrev pub turns_owed : Bool → ℕ
turns_owed owed = if owed then 1 else 0

-- of the job: a read takes one turn
abbrev pub turns_of : Option Mark → OpenWork → ℕ
turns_of None w = 1
turns_of (Some mark) w = w.pages + turns_owed w.owed

abbrev pub left_of : Stand → OpenWork → ℕ
left_of (Open j) w = turns_of j.mark w + w.switch
left_of (Ended result given) w = w.switch

-- the pages of a record of a mark, for a number of a length
abbrev pub pages_of_mark : ℕ → ℕ → Mark → ℕ
pages_of_mark p length (Content bytes) = record_pages_of length p
pages_of_mark p length Invalid = record_pages_of 0 p
pages_of_mark p length Erased = record_pages_of 0 p

-- a read has no record
abbrev pub FitsMark : ℕ → ℕ → Option Mark → OpenWork → Type 0
FitsMark p length None w = Unit {0}
FitsMark p length (Some mark) w = w.pages ≤ pages_of_mark p length mark

-- URGENT WRITES
-- the pages that are ready: the free ones of those that are kept, all of these while a target is sealed
abbrev pub ready_of : ℕ → Bool → ℕ → ℕ
ready_of reserve true free = reserve
ready_of reserve false free = min reserve free

-- what an urgent write waits for: so many turns of a seal or an owed gate before it, and with one open its own pages, where
-- it was ready
pub record Waits : Type 0 where
  pub before : ℕ
  pub urgent : Bool
  pub promised : Bool
  pub pages : ℕ

abbrev pub wait_of : Waits → Option ℕ
wait_of w = if w.urgent then (if w.promised then Some (w.before + w.pages) else None) else Some w.before
