-- Laws of the turns of a switch, for the layers above.
use Rattle.std.specs.Prelude.{◌≡◌, ◌≤◌, ◌+◌, ℕ, false, List, set, slice_get, Some, None, IfSome}
use Rattle.nv_base.specs.Geometry.{sectors_of_bank}
use Rattle.nv_base.specs.declared.instance.DeviceNumber.{DeviceNumber}
use Rattle.nv_base.specs.Pages.{record_pages_of}
use Rattle.fee_format.specs.declared.rec_head.RecHead.{RecHead}
use Rattle.fee_image.specs.declared.place.Place.TheVariants.{Content}
use Rattle.fee_log.specs.declared.tail.Tail.TheVariants.{Open}
use Rattle.fee_log.specs.Index.{with_flag}
use Rattle.fee_log.specs.Log.{LogState, IsLogState, IsFor, work_in}
use Rattle.fee_course.specs.declared.course.Course.{Course}
use Rattle.fee_course.specs.Course.{IsUnderWay}
use Rattle.fee_course.specs.Laws.{IsBeforeGate}
use Rattle.fee_switch.specs.Banks.{BanksState, IsBanksState, left_of, left_beside, course_appended, append_begun, advanced}

-- the sectors and pages that are done are no more than there are, and the head and the gate come only where no copy is left
abbrev pub IsGoing : BanksState → Course → Type 0
IsGoing s course = IsUnderWay s.geometry.page (sectors_of_bank s.geometry s.banks) s.log.numbers s.log.places s.log.flags course

-- each operation that is done, but for the gate, leaves one turn less, and what comes behind it is under way; no record is in
-- work in the active log
abbrev pub LeftFalls : Type 0
LeftFalls =
    (s : BanksState) (copies : LogState) (buffer : List ℕ) (course : Course)
    → IsBanksState s → IsLogState s.log → work_in s.log.tail ≡ None → s.course ≡ Some course → IsBeforeGate course → IsGoing s course
    → let t = advanced (record s { copies = copies; buffer = buffer }) course in (left_of t + 1 ≡ left_of s) × IfSome t.course (IsGoing t)

-- BESIDE AN APPEND
-- of an idle log no fewer are left once a record is appended to a number, and no more of them than the turns of its copy
abbrev pub LeftRises : Type 0
LeftRises = (s : BanksState) (number : ℕ) → work_in s.log.tail ≡ None → left_of s ≤ left_beside s number

abbrev pub LeftRisesFew : Type 0
LeftRisesFew =
    (s : BanksState) (i : ℕ) (n : DeviceNumber × ℕ)
    → IsLogState s.log → work_in s.log.tail ≡ None → slice_get s.log.numbers i ≡ Some n
    → left_beside s n.0.0 ≤ left_of s + (record_pages_of n.1 s.geometry.page + 1)

-- as many are left once it has begun
abbrev pub LeftBegins : Type 0
LeftBegins = (s : BanksState) (h : RecHead) → IsLogState s.log → IsFor s.log.numbers h → left_of (append_begun s h) ≡ left_beside s h.number.0

-- and once the last page of a content is done: its number has no copy, and the one in work sets no flag
abbrev pub LeftEnds : Type 0
LeftEnds =
    (s : BanksState) (h : RecHead) (i length end at count : ℕ)
    → IsLogState s.log → work_in s.log.tail ≡ Some h → slice_get s.log.numbers i ≡ Some (h.number, length)
    → with_flag s.log.numbers s.log.flags h.number.0 false ≡ s.log.flags → course_appended s.log.numbers h.number.0 s.course ≡ s.course
    → left_of (record s { log = record s.log { end = end; tail = Open; places = set s.log.places i (Content at count) } }) ≡ left_of s
