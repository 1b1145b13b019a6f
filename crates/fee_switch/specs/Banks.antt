-- The banks of a flash, as contracts see them.
use Rattle.std.specs.Prelude.{◌≡◌, ◌==◌, ◌<◌, ◌+◌, if◌then◌else◌, slice_get, ℕ, Bool, true, false, List, length, Option, Some, None, IfSome}
use Rattle.nv_base.specs.declared.geometry.Geometry.{Geometry}
use Rattle.nv_base.specs.declared.instance.DeviceNumber.{DeviceNumber}
use Rattle.nv_base.specs.Count.{Rose}
use Rattle.nv_base.specs.Geometry.{IsLegal, HasBanks, sectors_of_bank}
use Rattle.nv_base.specs.Lengths.{place_of}
use Rattle.fls_model.specs.declared.flash.FlashAnswer.{FlashAnswer}
use Rattle.fls_model.specs.declared.flash.FlashAnswer.TheVariants.{Done, Failed as FlashFailed, Off}
use Rattle.fls_model.specs.Told.{Told}
use Rattle.fee_format.specs.BankHead.{last_generation}
use Rattle.fee_format.specs.Formats.{new_format}
use Rattle.fee_format.specs.declared.rec_head.RecHead.{RecHead}
use Rattle.fee_format.specs.declared.rec_head.RecordKind.{RecordKind}
use Rattle.fee_format.specs.declared.rec_head.RecordKind.TheVariants as kind
use Rattle.fee_log.specs.Index.{with_flag, clear_flags}
use Rattle.fee_log.specs.Log.{LogState, erased_state, work_in, begun}
use Rattle.fee_switch.specs.declared.active.ActiveBank.{ActiveBank}
use Rattle.fee_image.specs.declared.place.Place.{Place}
use Rattle.fee_image.specs.declared.place.Place.TheVariants.{Content}
use Rattle.fee_course.specs.declared.copies.Source.{Source}
use Rattle.fee_course.specs.declared.course.Course.{Course}
use Rattle.fee_course.specs.declared.course.Course.TheVariants.{Erase, Copy, Head, Gate}
use Rattle.fee_course.specs.Copies.{next_copy}
use Rattle.fee_course.specs.Course.{IsShort, after_done, after_failed, flag_due, appended_to, turns_left}
use Rattle.fee_image.specs.Image.{layout_of, active_of}
use Rattle.fee_switch.specs.Active.{active_shown}
use Rattle.fee_switch.specs.Reading.{buffer_size}
use Rattle.fee_switch.specs.Start.{IsLoadedAs}
use Rattle.fee_switch.specs.declared.phase.BankStart.{BankStart}
use Rattle.fee_switch.specs.declared.phase.BankStart.TheVariants.{Ready, Failed}
use Rattle.fee_switch.specs.declared.target.Stage.{Stage}
use Rattle.fee_switch.specs.declared.target.Target.{Target}
use Rattle.fee_switch.specs.declared.phase.Phase.{Phase}
use Rattle.fee_switch.specs.declared.phase.Phase.TheVariants as phase

pub record BanksState : Type 0 where
  pub geometry : Geometry
  -- how many banks share the flash
  pub banks : ℕ
  pub active : Option ActiveBank
  -- the bank that the next switch makes stand, or the open one
  pub target : ℕ
  -- how far the open switch has come
  pub course : Option Course
  -- the log of the active bank, and of the target
  pub log : LogState
  pub copies : LogState
  -- room for what one read of a start-up gives; the content that is copied stands at its front
  pub buffer : List ℕ

-- THE NEXT TARGET
-- the bank behind the active one, or the first
abbrev pub target_after : ℕ → Option ActiveBank → ℕ
target_after banks None = 0
target_after banks (Some a) = if a.bank + 1 == banks then 0 else a.bank + 1

-- WHAT HOLDS OF ALL BANKS
-- a log is of this flash and these numbers
pub record IsLogOf (g : Geometry) (banks : ℕ) (log : LogState) : Type 0 where
  pub shape : log.geometry ≡ g
  pub shared : log.banks ≡ banks

pub record IsBanksState (s : BanksState) : Type 0 where
  pub legal : IsLegal s.geometry
  pub shared : HasBanks s.geometry s.banks
  pub log : IsLogOf s.geometry s.banks s.log
  pub copies : IsLogOf s.geometry s.banks s.copies
  pub numbers : s.copies.numbers ≡ s.log.numbers
  pub target : s.target < s.banks
  pub next : s.target ≡ target_after s.banks s.active
  pub target_log : s.copies.bank ≡ s.target
  pub active : IfSome s.active (λ a. (a.bank ≡ s.target → ⊥) × (s.log.bank ≡ a.bank))
  pub course : IfSome s.course (IsShort (sectors_of_bank s.geometry s.banks))
  pub buffer : length s.buffer ≡ buffer_size s.geometry s.banks

-- banks of the same flash and the same numbers
pub record IsSameFlash (s t : BanksState) : Type 0 where
  pub geometry : t.geometry ≡ s.geometry
  pub banks : t.banks ≡ s.banks
  pub numbers : t.log.numbers ≡ s.log.numbers

-- banks that were made, none of which is active
pub record IsMade (s : BanksState) (g : Geometry) (banks : ℕ) (numbers : List (DeviceNumber × ℕ)) : Type 0 where
  pub shape : s.geometry ≡ g
  pub shared : s.banks ≡ banks
  pub configured : s.log.numbers ≡ numbers
  pub active : s.active ≡ None
  pub course : s.course ≡ None

-- STARTS
-- a start-up only reads; it fails where the faults rose
abbrev pub IsStartOf : Told → BankStart → Told → Type 0
IsStartOf s Ready t = t ≡ s
IsStartOf s Failed t = Rose s.faults t.faults × (t ≡ record s { faults = t.faults })

-- the active bank is the one of these bytes, and its log is loaded from them
abbrev pub FindsActive : List ℕ → BanksState → Type 0
FindsActive bytes s = active_shown s.active ≡ active_of (layout_of s.geometry s.banks) bytes

abbrev pub LoadsActive : List ℕ → BanksState → Type 0
LoadsActive bytes s = IfSome s.active (λ a. IsLoadedAs (layout_of s.geometry s.banks) bytes a.bank a.head s.log)

-- THE PHASE
abbrev pub phase_of : Option Course → Phase
phase_of None = phase.None
phase_of (Some (Erase done)) = phase.Erase
phase_of (Some (Copy work)) = phase.Copy
phase_of (Some Head) = phase.Seal
phase_of (Some (Gate true)) = phase.Doubtful
phase_of (Some (Gate failed)) = phase.Seal

-- THE NEXT HEAD
-- the generation of the target's head
abbrev pub next_generation : Option ActiveBank → ℕ
next_generation None = 1
next_generation (Some a) = a.head.generation + 1

abbrev pub target_at : BanksState → Stage → Target
target_at s stage = record { geometry = s.geometry; banks = s.banks; bank = s.target; generation = next_generation s.active; stage = stage }

-- TURNS
-- the number of the record in work, by its place in the list of all
abbrev pub index_of : List (DeviceNumber × ℕ) → Option RecHead → Option ℕ
index_of numbers None = None
index_of numbers (Some h) = place_of numbers h.number.0

-- while a record is appended to the number at one place of the list, if any
abbrev pub left_as : BanksState → Option ℕ → Option Course → ℕ
left_as s appended None = 0
left_as s appended (Some course) =
    turns_left s.geometry.page (sectors_of_bank s.geometry s.banks) s.log.numbers s.log.places s.log.flags appended course

abbrev pub left_with : BanksState → Option Course → ℕ
left_with s course = left_as s (index_of s.log.numbers (work_in s.log.tail)) course

abbrev pub left_of : BanksState → ℕ
left_of s = left_with s s.course

-- once one is appended to this number, which is a content without a copy then
abbrev pub left_beside : BanksState → ℕ → ℕ
left_beside s number = left_as s (place_of s.log.numbers number) s.course

-- the next step reads a content
abbrev pub reads_place : Place → Bool
reads_place (Content at count) = true
reads_place place = false

abbrev pub reads_source : Option Source → Bool
reads_source None = false
reads_source (Some source) = reads_place source.place

abbrev pub reads_next : LogState → Option Course → Bool
reads_next log (Some (Copy None)) = reads_source (next_copy log.numbers log.places log.flags)
reads_next log course = false

-- A SWITCH BEGINS
abbrev pub is_worn_out : Option ActiveBank → Bool
is_worn_out None = false
is_worn_out (Some a) = a.head.generation == last_generation

-- with no flag set, and an empty log of the target
abbrev pub begun_again : BanksState → Course → BanksState
begun_again s course = record s {
  course = Some course;
  log = record s.log { flags = clear_flags s.log.numbers };
  copies = erased_state s.geometry s.banks s.target s.copies.numbers;
}

-- APPENDS
-- no switch is open, or one that erases or copies, and then a content alone
abbrev pub TakesRecord : RecordKind → Option Course → Type 0
TakesRecord k None = Unit {0}
TakesRecord k (Some (Erase done)) = k ≡ kind.Content
TakesRecord k (Some (Copy work)) = k ≡ kind.Content
TakesRecord k (Some _) = ⊥

abbrev pub appended_at : Option ℕ → Option Course → Option Course
appended_at (Some i) (Some course) = Some (appended_to i course)
appended_at _ course = course

abbrev pub course_appended : List (DeviceNumber × ℕ) → ℕ → Option Course → Option Course
course_appended numbers number course = appended_at (place_of numbers number) course

abbrev pub append_begun : BanksState → RecHead → BanksState
append_begun s head = record s { log = begun s.log head; course = course_appended s.log.numbers head.number.0 s.course }

-- STEPS
-- the target stands: the roles turn
abbrev pub stood : BanksState → Option ActiveBank
stood s = Some (record { bank = s.target; head = record { format = new_format; generation = next_generation s.active } })

abbrev pub ended : BanksState → BanksState
ended s =
    let target = target_after s.banks (stood s) in
    record s {
      active = stood s;
      target = target;
      course = None;
      log = s.copies;
      copies = erased_state s.geometry s.banks target s.log.numbers;
    }

-- a copy's last page sets its flag
abbrev pub flagged_at : LogState → Option (DeviceNumber × ℕ) → LogState
flagged_at log None = log
flagged_at log (Some n) = record log { flags = with_flag log.numbers log.flags n.0.0 true }

abbrev pub flagged_by : LogState → Option ℕ → LogState
flagged_by log None = log
flagged_by log (Some i) = flagged_at log (slice_get log.numbers i)

abbrev pub advanced_with : BanksState → Course → LogState → BanksState
advanced_with s course log = record s {
  log = log;
  course = Some (after_done s.geometry.page (sectors_of_bank s.geometry s.banks) log.numbers log.places log.flags course);
}

-- an operation before the gate is done
abbrev pub advanced : BanksState → Course → BanksState
advanced s course = advanced_with s course (flagged_by s.log (flag_due course))

-- and one that failed: where an erase comes, with no flag set, and an empty log of the target
abbrev pub fallen_to : BanksState → Course → BanksState
fallen_to s (Erase done) = begun_again s (Erase done)
fallen_to s course = record s { course = Some course }

abbrev pub fallen_back : BanksState → Course → BanksState
fallen_back s course = fallen_to s (after_failed course)

abbrev pub done_at : BanksState → Course → BanksState
done_at s (Gate failed) = ended s
done_at s course = advanced s course

abbrev pub after_answer : BanksState → Course → FlashAnswer → BanksState
after_answer s course Done = done_at s course
after_answer s course FlashFailed = fallen_back s course
after_answer s course Off = s
