-- The open work of a device, and how urgent writes stand.
use Rattle.std.specs.Prelude.{ℕ, ◌-◌, ◌&&◌, Bool, true, false, not, nat_le, if◌then◌else◌, is_some, Option, Some, None}
use Rattle.nv_base.specs.Pages.{record_pages_of}
use Rattle.nv_base.specs.declared.job.DeviceOp.{DeviceOp}
use Rattle.nv_base.specs.declared.job.DeviceOp.TheVariants.{Read, Write, Invalidate, Erase}
use Rattle.fee_image.specs.RecordList.{pages_of_head}
use Rattle.fee_switch_laws.specs.fee_log.declared.tail.Tail.{Tail}
use Rattle.fee_switch_laws.specs.fee_log.declared.tail.Tail.TheVariants.{Writes, Owes}
use Rattle.fee_switch_laws.specs.fee_log.Log.{work_in}
use Rattle.fee_course.specs.declared.course.Course.{Course}
use Rattle.fee_course.specs.declared.course.Course.TheVariants as course
use Rattle.fee_switch_laws.specs.Space.{free_pages, has_room}
use Rattle.fee_switch_laws.specs.fee_switch.Banks.{BanksState, begun_again, left_of as switch_left, left_beside}
use Rattle.fee_told.specs.Figures.{OpenWork, Waits, turns_owed}
use Rattle.fee_laws.specs.declared.job.FeeJob.{FeeJob}

-- THE PAGES OF A JOB
-- of its record, none of a read
abbrev pub pages_of_op : ℕ → DeviceOp → ℕ → ℕ
pages_of_op p Read length = 0
pages_of_op p Write length = record_pages_of length p
pages_of_op p Invalidate length = record_pages_of 0 p
pages_of_op p Erase length = record_pages_of 0 p

abbrev pub pages_of_job : ℕ → Option FeeJob → ℕ
pages_of_job p None = 0
pages_of_job p (Some j) = pages_of_op p j.op j.length

-- those that are left: of the record in work, or of one that hasn't begun yet
abbrev pub pages_left : ℕ → ℕ → Tail → ℕ
pages_left p wanted (Writes head done) = pages_of_head p head - done
pages_left p wanted _ = wanted

abbrev pub is_owed : Tail → Bool
is_owed (Owes head next) = true
is_owed _ = false

-- ROOM
-- a job has a record to begin: it isn't a read, and none is in work
abbrev pub is_waiting : BanksState → FeeJob → Bool
is_waiting s j = nat_le 1 (pages_of_op s.geometry.page j.op j.length) && not (is_some (work_in s.log.tail))

-- which has room in the active bank
abbrev pub fits_in : ℕ → BanksState → FeeJob → Bool
fits_in reserve s j = has_room j.urgent (pages_of_op s.geometry.page j.op j.length) reserve (free_pages s)

-- without room it needs a switch
abbrev pub needs_switch : ℕ → BanksState → Option FeeJob → Bool
needs_switch reserve s None = false
needs_switch reserve s (Some j) = is_waiting s j && not (fits_in reserve s j)

-- an append is taken but while a target is sealed
abbrev pub takes_append : Option Course → Bool
takes_append (Some course.Head) = false
takes_append (Some (course.Gate failed)) = false
takes_append _ = true

-- an urgent write with room begins in its next turn, also beside a switch
abbrev pub begins_next : BanksState → FeeJob → Bool
begins_next s j = takes_append s.course && j.urgent && is_waiting s j && fits_in 0 s j

-- the pages that it takes then
abbrev pub claimed : BanksState → Option FeeJob → ℕ
claimed s None = 0
claimed s (Some j) = if begins_next s j then pages_of_op s.geometry.page j.op j.length else 0

-- the free pages that are left for others
abbrev pub pages_free : BanksState → Option FeeJob → ℕ
pages_free s job = free_pages s - claimed s job

-- the turns of the open switch: the number of such a write is copied anew
abbrev pub turns_beside : BanksState → Option FeeJob → ℕ
turns_beside s None = switch_left s
turns_beside s (Some j) = if begins_next s j then left_beside s j.number.0 else switch_left s

-- the turns of the switch that is open, or of the one that the job needs
abbrev pub switch_turns : ℕ → BanksState → Option FeeJob → Option Course → ℕ
switch_turns reserve s job (Some c) = turns_beside s job
switch_turns reserve s job None = if needs_switch reserve s job then switch_left (begun_again s (course.Erase 0)) else 0

abbrev pub work_of : ℕ → BanksState → Option FeeJob → OpenWork
work_of reserve s job = record {
  pages = pages_left s.geometry.page (pages_of_job s.geometry.page job) s.log.tail;
  owed = is_owed s.log.tail;
  switch = switch_turns reserve s job s.course;
}

-- URGENT WRITES
-- the target is being sealed: its head and its gate are left, or its gate
abbrev pub seal_turns : Option Course → ℕ
seal_turns (Some course.Head) = 2
seal_turns (Some (course.Gate failed)) = 1
seal_turns _ = 0

abbrev pub is_urgent_job : Option FeeJob → Bool
is_urgent_job None = false
is_urgent_job (Some j) = j.urgent

abbrev pub is_promised : Option FeeJob → Bool
is_promised None = false
is_promised (Some j) = j.promised

abbrev pub turns_before : Tail → ℕ → ℕ
turns_before tail seal = if nat_le 1 seal then seal else turns_owed (is_owed tail)

abbrev pub waits_of : BanksState → Option FeeJob → Waits
waits_of s job = record {
  before = turns_before s.log.tail (seal_turns s.course);
  urgent = is_urgent_job job;
  promised = is_promised job;
  pages = pages_left s.geometry.page (pages_of_job s.geometry.page job) s.log.tail;
}
