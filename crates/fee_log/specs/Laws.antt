-- Laws of a log and its bank's pages, for the layers above.
use Rattle.std.specs.Prelude.{◌≡◌, ◌<◌, ◌≤◌, ◌*◌, ◌^◌, slice_get, ℕ, Bool, List, length, None, Some, IsSome}
use Rattle.nv_base.specs.declared.geometry.Geometry.{Geometry}
use Rattle.nv_base.specs.declared.instance.DeviceNumber.{DeviceNumber}
use Rattle.nv_base.specs.Pages.{record_pages_of}
use Rattle.fls_model.specs.declared.flash.FlashAnswer.{FlashAnswer}
use Rattle.fls_model.specs.declared.flash.FlashAnswer.TheVariants.{Done, Off}
use Rattle.fls_model.specs.Op.{MayLeave}
use Rattle.fls_model.specs.Step.{Leaves}
use Rattle.fee_format.specs.declared.rec_head.RecHead.{RecHead}
use Rattle.fee_format.specs.declared.rec_head.RecordKind.{RecordKind}
use Rattle.nv_base.specs.Held.{never_written}
use Rattle.fee_image.specs.Bank.{Bank, page_of}
use Rattle.fee_image.specs.RecordList.{IsTailBlank}
use Rattle.fee_image.specs.declared.place.Place.{Place}
use Rattle.fee_image.specs.Places.{count_at}
use Rattle.fee_image.specs.LogLaws.{loaded_log, IsLoadedTail}
use Rattle.fee_image.specs.Log.{HoldsLog}
use Rattle.fee_image.specs.May.{May, IsAmong, MayCommit, exactly}
use Rattle.fee_image.specs.Step.{IsDue, page_due, log_begun, log_failed, log_given_up, may_done}
use Rattle.fee_log.specs.declared.tail.Tail.{Tail}
use Rattle.fee_log.specs.declared.tail.Tail.TheVariants.{Open, Owes}
use Rattle.fee_log.specs.Index.{with_flag}
use Rattle.fee_log.specs.Load.{IsLoaded}
use Rattle.fee_log.specs.Log.{LogState, head_next, IsLogState, IsFor, bank_of, pages_in, free_in, log_of, tail_with, work_in, begun, erased_state}
use Rattle.fee_log.specs.Step.{IsPageOf, due_page, due_bytes, op_of, log_after, after_step, given_up}

-- THE LOG THAT A STATE IS
-- after each call, whatever content the record in work has: it is the log that the laws of a log speak of
abbrev pub StepsFollow : Type 0
StepsFollow = (s : LogState) (body : List ℕ) (answer : FlashAnswer) → log_of (after_step s answer) body ≡ log_after s body answer

abbrev pub GivenUpFollows : Type 0
GivenUpFollows = (s : LogState) (body : List ℕ) → log_of (given_up s) body ≡ log_given_up s.geometry.page (log_of s body)

-- a record begins where nothing is owed, and waits for an owed gate
abbrev pub BeginsOpen : Type 0
BeginsOpen = (s : LogState) (head : RecHead) (body : List ℕ) → s.tail ≡ Open → log_of (begun s head) body ≡ log_begun (log_of s body) head body

abbrev pub BeginsOwing : Type 0
BeginsOwing = (s : LogState) (owed head : RecHead) (body : List ℕ) → s.tail ≡ Owes owed None → log_of (begun s head) body ≡ log_of s body

-- a page is due where a record is in work
abbrev pub WorkIsDue : Type 0
WorkIsDue = (s : LogState) (body : List ℕ) → IsSome (work_in s.tail) → IsDue (log_of s body).tail × (due_page s ≡ page_due (log_of s body))

-- STARTS
-- a log that was loaded is the one of its bank in these bytes
abbrev pub LoadsAreLoaded : Type 0
LoadsAreLoaded =
    (b : Bank) (bytes : List ℕ) (s : LogState) (body : List ℕ) → IsLoaded b bytes s
    → let tail = tail_with s.tail body in (log_of s body ≡ loaded_log b s.numbers bytes tail) × IsLoadedTail b bytes tail

-- WHAT THE BYTES HOLD
-- a record that waits for an owed gate may be committed
abbrev pub MayFollow : May → Tail → List ℕ → Type 0
MayFollow may (Owes owed (Some head)) body = (length body ≡ head.length) × MayCommit may head body
MayFollow may _ body = Unit {0}

-- the bytes of a flash hold a log in its bank, where this is the content of the record in work
pub record HoldsState (s : LogState) (body bytes : List ℕ) (may : May) : Type 0 where
  pub size : pages_in s * s.geometry.page * s.banks ≤ length bytes
  pub holds : HoldsLog (bank_of s) s.numbers bytes may (log_of s body)
  pub follows : MayFollow may s.tail body

-- after a load; nothing but what the bank shows may be found
abbrev pub LoadsHold : Type 0
LoadsHold =
    (s : LogState) (body bytes : List ℕ)
    → IsLogState s → IsLoaded (bank_of s) bytes s → pages_in s * s.geometry.page * s.banks ≤ length bytes
    → HoldsState s body bytes (exactly (bank_of s) bytes)

-- a bank that is blank behind its gate, where each number may be erased
abbrev pub ErasedHolds : Type 0
ErasedHolds =
    (g : Geometry) (banks bank : ℕ) (numbers : List (DeviceNumber × ℕ)) (body bytes : List ℕ) (may : May)
    → let s = erased_state g banks bank numbers in
    IsLogState s → pages_in s * g.page * banks ≤ length bytes → IsTailBlank (bank_of s) bytes 2 → ((number length : ℕ) → IsAmong (may number length) never_written)
    → HoldsState s body bytes may

-- a record begins, whose mark may be found
abbrev pub BeginsHold : Type 0
BeginsHold =
    (s : LogState) (head : RecHead) (before body bytes : List ℕ) (may : May)
    → IsLogState s → HoldsState s before bytes may → work_in s.tail ≡ None → IsFor s.numbers head
    → record_pages_of head.length s.geometry.page ≤ free_in s → length body ≡ head.length → MayCommit may head body
    → HoldsState (begun s head) body bytes may

-- a record is given up
abbrev pub GivenUpHolds : Type 0
GivenUpHolds =
    (s : LogState) (body after bytes : List ℕ) (may : May)
    → IsLogState s → HoldsState s body bytes may → HoldsState (given_up s) after bytes may

abbrev pub FlagsHold : Type 0
FlagsHold =
    (s : LogState) (body bytes : List ℕ) (may : May) (number : ℕ) (on : Bool)
    → HoldsState s body bytes may → HoldsState (record s { flags = with_flag s.numbers s.flags number on }) body bytes may

-- COUNTS
-- they have 32 bits, and so has that of the next record
abbrev pub PlacesAreCounted : Type 0
PlacesAreCounted = (s : LogState) (i : ℕ) (place : Place) → IsLogState s → slice_get s.places i ≡ Some place → count_at place < 2 ^ 32

abbrev pub NextIsCounted : Type 0
NextIsCounted = (s : LogState) (number : DeviceNumber) (kind : RecordKind) (length : ℕ) → IsLogState s → (head_next s number kind length).count < 2 ^ 32

-- STEPS
-- what may be found after an answer: after a record's last page its mark alone
abbrev pub may_after : LogState → List ℕ → FlashAnswer → May → May
may_after s body Done may = may_done s.geometry.page may (log_of s body)
may_after s body _ may = may

-- the bytes hold a log of which a page is due, with these bytes
pub record IsDueOn (s : LogState) (body bytes : List ℕ) (may : May) : Type 0 where
  pub state : IsLogState s
  pub holds : HoldsState s body bytes may
  pub work : IsSome (work_in s.tail)
  pub page : IsPageOf s.geometry.page (due_bytes s body)

-- whatever a step leaves, done, failed or cut, the bank holds the log that follows a failure: it shows a number's old mark
-- or the new one
abbrev pub CutsHold : Type 0
CutsHold =
    (s : LogState) (body old new : List ℕ) (may : May) → IsDueOn s body old may → MayLeave (op_of s body) old new
    → HoldsLog (bank_of s) s.numbers new may (log_failed s.geometry.page (log_of s body))

-- and by the flash's answer, while the power is on, the log after the step
abbrev pub AnswersHold : Type 0
AnswersHold =
    (s : LogState) (body old new : List ℕ) (may : May) (answer : FlashAnswer)
    → IsDueOn s body old may → (answer ≡ Off → ⊥) → MayLeave (op_of s body) old new → Leaves (op_of s body) answer old new
    → HoldsState (after_step s answer) body new (may_after s body answer may)

-- a page that is done stands
abbrev pub PagesStand : Type 0
PagesStand =
    (s : LogState) (body old new : List ℕ) (may : May) → IsDueOn s body old may → Leaves (op_of s body) Done old new
    → page_of (bank_of s) new (due_page s) ≡ due_bytes s body
