-- The space that a device needs, and the room of one record.
use Rattle.std.specs.Prelude.{ℕ, ◌+◌, ◌*◌, ◌≤◌, Bool, nat_le, if◌then◌else◌, is_some, List, [], ◌∷◌}
use Rattle.nv_base.specs.declared.geometry.Geometry.{Geometry}
use Rattle.nv_base.specs.declared.instance.DeviceNumber.{DeviceNumber}
use Rattle.nv_base.specs.Geometry.{pages_of_bank}
use Rattle.nv_base.specs.Lengths.{AreLengths}
use Rattle.nv_base.specs.Pages.{record_pages_of}
use Rattle.fee_log.specs.Log.{free_in}
use Rattle.fee_course.specs.Copies.{greatest}
use Rattle.fee_switch.specs.Banks.{BanksState}

-- SPACE
-- the pages of a record of each number at its full length
abbrev pub all_pages : ℕ → List (DeviceNumber × ℕ) → ℕ
all_pages p [] = 0
all_pages p (n ∷ ns) = record_pages_of n.1 p + all_pages p ns

-- the most that a record may ask for: its own pages, and those that are kept for urgent writes
abbrev pub most_pages : ℕ → List (DeviceNumber × ℕ) → ℕ → ℕ
most_pages p numbers reserve = greatest p numbers + reserve

-- Beside its head and gate a bank has room for a copy of each number, for those that are copied twice, fewer pages than a
-- record may ask for, and for the record that waits.
pub record HasSpace (numbers : List (DeviceNumber × ℕ)) (g : Geometry) (banks reserve : ℕ) : Type 0 where
  pub lengths : AreLengths 0 numbers
  pub space : all_pages g.page numbers + 2 * greatest g.page numbers + 2 * reserve + 1 ≤ pages_of_bank g banks

-- ROOM
-- the free pages of the active bank; none where no bank is active
abbrev pub free_pages : BanksState → ℕ
free_pages s = if is_some s.active then free_in s.log else 0

-- a record has room; only an urgent one may take what is kept
abbrev pub has_room : Bool → ℕ → ℕ → ℕ → Bool
has_room urgent pages reserve free = if urgent then nat_le pages free else nat_le (pages + reserve) free
