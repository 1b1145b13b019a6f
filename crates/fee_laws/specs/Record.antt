-- The record of the open job.
use Rattle.std.specs.Prelude.{◌≡◌, ◌⊎◌, ◌≤◌, ℕ, true, false, is_some, List, Option, Some, None}
use Rattle.nv_base.specs.declared.instance.DeviceNumber.{DeviceNumber}
use Rattle.nv_base.specs.declared.job.DeviceOp.{DeviceOp}
use Rattle.nv_base.specs.declared.job.DeviceOp.TheVariants.{Read, Write, Invalidate, Erase}
use Rattle.memif.specs.Told.{length_of}
use Rattle.fee_format.specs.declared.rec_head.RecHead.{RecHead}
use Rattle.fee_format.specs.declared.rec_head.RecordKind.{RecordKind}
use Rattle.fee_format.specs.declared.rec_head.RecordKind.TheVariants as kind
use Rattle.fee_switch_laws.specs.fee_log.Index.{with_flag}
use Rattle.fee_switch_laws.specs.fee_log.Log.{LogState, head_next, work_in}
use Rattle.fee_switch_laws.specs.fee_switch.Banks.{BanksState, TakesRecord, course_appended}
use Rattle.fee_laws.specs.declared.job.FeeJob.{FeeJob}
use Rattle.fee_laws.specs.Work.{begins_next, seal_turns}

-- the kind of the record of an operation; a read has none
abbrev pub kind_of : DeviceOp → Option RecordKind
kind_of Read = None
kind_of Write = Some kind.Content
kind_of Invalidate = Some kind.Invalid
kind_of Erase = Some kind.Erased

-- the header of a job's record of a kind, the next one of its number
abbrev pub head_of : LogState → RecordKind → FeeJob → RecHead
head_of log kind j = head_next log j.number kind j.length

-- a content has its number's length, and a mark none
abbrev pub IsLengthOf : DeviceOp → ℕ → ℕ → Type 0
IsLengthOf Read length of = length ≡ of
IsLengthOf Write length of = length ≡ of
IsLengthOf Invalidate length of = length ≡ 0
IsLengthOf Erase length of = length ≡ 0

-- an open job is of a configured number; a write alone is urgent, and an urgent one alone is promised
pub record IsJobOf (numbers : List (DeviceNumber × ℕ)) (j : FeeJob) : Type 0 where
  pub length : ℕ
  pub configured : length_of numbers j.number.0 ≡ Some length
  pub fits : IsLengthOf j.op j.length length
  pub urgent : j.urgent ≡ true → j.op ≡ Write
  pub promised : j.promised ≡ true → j.urgent ≡ true

-- a record in work is that of the open job, in the active bank; beside a switch it is an urgent one's, no target is sealed
-- meanwhile, the flag of its number is clear, and a copy of that in work sets none
pub record IsInWork (s : BanksState) (job : Option FeeJob) (h : RecHead) : Type 0 where
  pub of : FeeJob
  pub is_open : job ≡ Some of
  pub writes : kind_of of.op ≡ Some h.kind
  pub head : h ≡ head_of s.log h.kind of
  pub active : is_some s.active ≡ true
  pub taken : TakesRecord h.kind s.course
  pub beside : is_some s.course ≡ true → of.urgent ≡ true
  pub clear : with_flag s.log.numbers s.log.flags h.number.0 false ≡ s.log.flags
  pub alone : course_appended s.log.numbers h.number.0 s.course ≡ s.course

-- an urgent write that is promised begins next, or waits for the seal of another bank
abbrev pub IsReady : BanksState → FeeJob → Type 0
IsReady s j = j.promised ≡ true → work_in s.log.tail ≡ None → (begins_next s j ≡ true) ⊎ (1 ≤ seal_turns s.course)
