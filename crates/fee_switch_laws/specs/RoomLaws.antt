-- Laws of the room that the banks keep, for the layers above.
use Rattle.std.specs.Prelude.{◌≡◌, ◌⊎◌, ◌≤◌, ◌+◌, ℕ, Bool, true, false, List, Some, None, IsSome, IfSome}
use Rattle.nv_base.specs.declared.geometry.Geometry.{Geometry}
use Rattle.nv_base.specs.declared.instance.DeviceNumber.{DeviceNumber}
use Rattle.nv_base.specs.Pages.{record_pages_of}
use Rattle.fls_model.specs.declared.flash.FlashAnswer.{FlashAnswer}
use Rattle.fls_model.specs.declared.flash.FlashAnswer.TheVariants.{Done, Off}
use Rattle.fls_model.specs.Told.{Told}
use Rattle.fee_format.specs.Formats.{new_format}
use Rattle.fee_format.specs.declared.rec_head.RecHead.{RecHead}
use Rattle.fee_log.specs.declared.tail.Tail.TheVariants.{Open}
use Rattle.fee_log.specs.Index.{with_flag, clear_flags}
use Rattle.fee_log.specs.Log.{IsLogState, IsFor, work_in}
use Rattle.fee_log.specs.Step.{after_step, given_up}
use Rattle.fee_course.specs.declared.course.Course.{Course}
use Rattle.fee_course.specs.declared.course.Course.TheVariants.{Erase, Gate}
use Rattle.fee_course.specs.Laws.{IsBeforeGate}
use Rattle.fee_switch.specs.Banks.{BanksState, IsBanksState, IsSameFlash, IsMade, TakesRecord, is_worn_out, begun_again, append_begun, ended, after_answer, left_of}
use Rattle.fee_switch.specs.Copy.{CanGoOn, MakesNext}
use Rattle.fee_switch_laws.specs.Space.{HasSpace, most_pages, free_pages, has_room}
use Rattle.fee_switch_laws.specs.KeepsRoom.{KeepsRoom}

-- WHAT IT IS FOR
-- the next step of an open switch has what it asks for
abbrev pub StepsMayBeMade : Type 0
StepsMayBeMade = (reserve : ℕ) (s : BanksState) → IsBanksState s → IsLogState s.log → KeepsRoom reserve s → IfSome s.course (CanGoOn s)

-- each step that is done, but for the gate, leaves one turn less
abbrev pub StepsLower : Type 0
StepsLower =
    (reserve : ℕ) (s made : BanksState) (course : Course) (told told' : Told)
    → IsBanksState s → IsLogState s.log → work_in s.log.tail ≡ None → s.course ≡ Some course → KeepsRoom reserve s → IsBeforeGate course
    → MakesNext s course told Done made told' → left_of (after_answer made course Done) + 1 ≡ left_of s

-- behind the switch the active log is open, with room for the greatest record and for what is kept
pub record IsBehindSwitch (reserve : ℕ) (s : BanksState) : Type 0 where
  pub active : IsSome s.active
  pub closed : s.course ≡ None
  pub tail : s.log.tail ≡ Open
  pub format : s.log.format ≡ new_format
  pub clear : s.log.flags ≡ clear_flags s.log.numbers
  pub room : most_pages s.geometry.page s.log.numbers reserve ≤ free_pages s

abbrev pub SwitchesMakeRoom : Type 0
SwitchesMakeRoom = (reserve : ℕ) (s : BanksState) (failed : Bool) → IsBanksState s → KeepsRoom reserve s → s.course ≡ Some (Gate failed) → IsBehindSwitch reserve (ended s)

-- so that each record has room, urgent or not
abbrev pub RecordsHaveRoom : Type 0
RecordsHaveRoom =
    (p reserve free : ℕ) (numbers : List (DeviceNumber × ℕ)) (head : RecHead) (urgent : Bool)
    → 16 ≤ p → IsFor numbers head → most_pages p numbers reserve ≤ free → has_room urgent (record_pages_of head.length p) reserve free ≡ true

-- WHAT KEEPS IT
-- banks that were made, and any of the same flash and numbers with no switch open, as a start-up leaves them
abbrev pub MadeKeepRoom : Type 0
MadeKeepRoom =
    (reserve banks : ℕ) (s : BanksState) (g : Geometry) (numbers : List (DeviceNumber × ℕ))
    → HasSpace numbers g banks reserve → IsMade s g banks numbers → KeepsRoom reserve s

abbrev pub ClosedKeepRoom : Type 0
ClosedKeepRoom = (reserve : ℕ) (s t : BanksState) → HasSpace s.log.numbers s.geometry s.banks reserve → IsSameFlash s t → t.course ≡ None → KeepsRoom reserve t

-- a switch that is opened as a record has no room
abbrev pub BeginsKeepRoom : Type 0
BeginsKeepRoom =
    (reserve : ℕ) (s : BanksState) (head : RecHead) (urgent : Bool)
    → IsBanksState s → KeepsRoom reserve s → work_in s.log.tail ≡ None → is_worn_out s.active ≡ false
    → IsFor s.log.numbers head → has_room urgent (record_pages_of head.length s.geometry.page) reserve (free_pages s) ≡ false
    → KeepsRoom reserve (begun_again s (Erase 0))

-- each answer of a step but that the power is off, behind which only a start-up comes
abbrev pub StepsKeepRoom : Type 0
StepsKeepRoom =
    (reserve : ℕ) (s made : BanksState) (course : Course) (told told' : Told) (answer : FlashAnswer)
    → IsBanksState s → IsLogState s.log → work_in s.log.tail ≡ None → s.course ≡ Some course → KeepsRoom reserve s
    → MakesNext s course told answer made told' → (answer ≡ Off → ⊥) → KeepsRoom reserve (after_answer made course answer)

-- a record that has room begins: with no switch open any, else a content
abbrev pub RecordsKeepRoom : Type 0
RecordsKeepRoom =
    (reserve : ℕ) (s : BanksState) (head : RecHead)
    → IsBanksState s → KeepsRoom reserve s → work_in s.log.tail ≡ None → TakesRecord head.kind s.course → IsFor s.log.numbers head
    → record_pages_of head.length s.geometry.page ≤ free_pages s
    → KeepsRoom reserve (append_begun s head)

-- and with no flag set none comes to be set by it
abbrev pub ClearFlagsStay : Type 0
ClearFlagsStay = (numbers : List (DeviceNumber × ℕ)) (number : ℕ) → with_flag numbers (clear_flags numbers) number false ≡ clear_flags numbers

-- each answer of a page of it
abbrev pub PagesKeepRoom : Type 0
PagesKeepRoom =
    (reserve : ℕ) (s : BanksState) (answer : FlashAnswer)
    → KeepsRoom reserve s → IsSome (work_in s.log.tail) → KeepsRoom reserve (record s { log = after_step s.log answer })

-- it is given up with no switch open; in one only where none is in work
abbrev pub GivingUpKeepsRoom : Type 0
GivingUpKeepsRoom =
    (reserve : ℕ) (s : BanksState) → KeepsRoom reserve s → (s.course ≡ None) ⊎ (work_in s.log.tail ≡ None) → KeepsRoom reserve (record s { log = given_up s.log })
