-- What is told of a memory device.
use Rattle.std.specs.Prelude.{◌≡◌, ◌==◌, ◌+◌, ◌*◌, ◌&&◌, ◌||◌, ℕ, Bool, true, false, not, min, if◌then◌else◌, List, [], ◌∷◌, Option, Some, None, is_some}
pub use Rattle.nv_base.specs.Held.{Held, more_writes, held_next, never_written}
use Rattle.nv_base.specs.declared.instance.DeviceNumber.{DeviceNumber}
use Rattle.nv_base.specs.declared.mark.Mark.{Mark}
use Rattle.nv_base.specs.declared.mark.Mark.TheVariants.{Content, Invalid, Erased}
use Rattle.nv_base.specs.Count.{last_count}
use Rattle.nv_base.specs.Plan.{Planning, planned, no_planning}
use Rattle.nv_base.specs.declared.job.DeviceOp.{DeviceOp}
use Rattle.nv_base.specs.declared.job.DeviceOp.TheVariants.{Read, Write, Invalidate, Erase}
use Rattle.memif.specs.declared.answer.MemStatus.{MemStatus}
use Rattle.memif.specs.declared.answer.MemStatus.TheVariants.{Uninit, Idle, Busy, BusyInternal}
use Rattle.memif.specs.declared.answer.JobResult.{JobResult}
use Rattle.memif.specs.declared.answer.JobResult.TheVariants.{JobPending}

-- WHAT NEVER CHANGES

-- the two parts of a device, each over a flash of its own, if it has one
pub data Part : Type 0 where
  First : Part
  Second : Part

-- of one number: its part, the pages that an urgent write of it takes, and the most turns of each operation
pub record Figures : Type 0 where
  pub part : Part
  pub pages : ℕ
  pub read : ℕ
  pub write : ℕ
  pub invalidate : ℕ
  pub erase : ℕ

pub record Fixed : Type 0 where
  -- the configured numbers with the lengths of their contents, ascending
  pub numbers : List (DeviceNumber × ℕ)
  -- the figures of each, in the same order
  pub figures : List Figures
  -- the pages that are kept for urgent writes; a device says in its own contract when they are ready
  pub reserve : ℕ
  -- the most turns of work of its own
  pub own : ℕ
  -- it has a second part; else that part is `no_part`, and stays so
  pub two : Bool

-- WHAT CHANGES

-- of one number: what it holds for certain, and what a start-up may find beside it
pub record Slot : Type 0 where
  pub settled : Held
  pub doubts : List Held

pub record Job : Type 0 where
  pub number : ℕ
  -- the mark that it is to settle; none in a read
  pub mark : Option Mark
  pub urgent : Bool

-- where the jobs stand: one is open, or the last one came to this result and gave this content
pub data Stand : Type 0 where
  Open : (job : Job) → Stand
  Ended : (result : JobResult) → (given : List ℕ) → Stand

-- what each part has of its own
pub record PartTold : Type 0 where
  -- its faults, and those that its flash counts
  pub faults : ℕ
  pub flash_faults : ℕ
  -- a power cut stands
  pub off : Bool
  -- the power cuts of its flash that are planned, and those that came without a plan
  pub planning : Planning

pub record DeviceTold : Type 0 where
  pub fixed : Fixed
  -- what the numbers hold, in their order, where it is told
  pub slots : Option (List Slot)
  -- it is told until the first changing operation, at least
  pub tells : Bool
  -- the last start-up answered Ok
  pub started : Bool
  pub stand : Stand
  -- it is at work of its own, behind or beside the jobs
  pub switching : Bool
  -- the changing operations that were asked for, of both parts
  pub ops : ℕ
  -- how often it was started up, whatever was answered
  pub starts : ℕ
  pub first : PartTold
  pub second : PartTold
  -- the turns that the open work takes, where no fault comes
  pub left : ℕ
  -- for how many pages of urgent writes the device is ready, of those that are kept; 0 where it doesn't tell
  pub ready : ℕ
  -- with no urgent job open, the turns that an urgent write waits before its own pages; with one, those to its end,
  -- and none where nothing is promised of it
  pub wait : Option ℕ

-- PARTS

abbrev pub HasPart : Fixed → Part → Type 0
HasPart f First = Unit {0}
HasPart f Second = f.two ≡ true

abbrev pub is_part : Part → Part → Bool
is_part First First = true
is_part Second Second = true
is_part p q = false

abbrev pub part_at : Part → DeviceTold → PartTold
part_at First d = d.first
part_at Second d = d.second

abbrev pub with_part : Part → PartTold → DeviceTold → DeviceTold
with_part First p d = record d { first = p }
with_part Second p d = record d { second = p }

-- a part that has no flash: no fault, no cut, and it takes no plan
abbrev pub no_part : PartTold
no_part = record { faults = 0; flash_faults = 0; off = false; planning = no_planning }

-- its operations, which stand still at the end of the count
abbrev pub ops_of : DeviceTold → ℕ
ops_of d = d.ops

-- its faults are the sum of its parts', and stand still at their end
abbrev pub faults_of : DeviceTold → ℕ
faults_of d = min (d.first.faults + d.second.faults) last_count

-- a power cut stands in a part
abbrev pub is_off : DeviceTold → Bool
is_off d = d.first.off || d.second.off

-- behind a call of arm: the part of this number takes a plan, if it can
abbrev pub plans : ℕ → ℕ → PartTold → PartTold
plans nth keep p = record p { planning = planned nth keep p.planning }

abbrev pub armed : ℕ → ℕ → ℕ → DeviceTold → DeviceTold
armed which nth keep d = if which == 0 then record d { first = plans nth keep d.first } else (if which == 1 then record d { second = plans nth keep d.second } else d)

-- NUMBERS

-- what stands for a number, of things in the order of the numbers; this one where it isn't configured
abbrev pub at_number : {A : Type 0} → A → List (DeviceNumber × ℕ) → List A → ℕ → A
at_number none [] things n = none
at_number none (x ∷ xs) [] n = none
at_number none (x ∷ xs) (thing ∷ things) n = if x.0.0 == n then thing else at_number none xs things n

-- the length of a number's content, where it is configured
abbrev pub length_of : List (DeviceNumber × ℕ) → ℕ → Option ℕ
length_of [] n = None
length_of (x ∷ xs) n = if x.0.0 == n then Some x.1 else length_of xs n

-- a number that isn't configured was never written, and has no doubt
abbrev pub no_slot : Slot
no_slot = record { settled = never_written; doubts = [] }

abbrev pub slot_at : List (DeviceNumber × ℕ) → List Slot → ℕ → Slot
slot_at numbers slots n = at_number no_slot numbers slots n

abbrev pub no_figures : Figures
no_figures = record { part = First; pages = 0; read = 0; write = 0; invalidate = 0; erase = 0 }

abbrev pub figures_at : Fixed → ℕ → Figures
figures_at f n = at_number no_figures f.numbers f.figures n

-- the part of a block is that of its first number
abbrev pub part_of_block : Fixed → ℕ → Part
part_of_block f block = (figures_at f (block * 64)).part

-- the part of a job is that of its number
abbrev pub part_of : Fixed → Job → Part
part_of f j = (figures_at f j.number).part

-- a number is configured
abbrev pub IsConfigured : DeviceTold → ℕ → Type 0
IsConfigured d n = is_some (length_of d.fixed.numbers n) ≡ true

-- WHAT IS OPEN

abbrev pub is_open : Stand → Bool
is_open (Open j) = true
is_open (Ended result given) = false

abbrev pub is_urgent : Stand → Bool
is_urgent (Open j) = j.urgent
is_urgent (Ended result given) = false

-- no job and no work of its own is open
abbrev pub nothing_open : DeviceTold → Bool
nothing_open d = not (is_open d.stand) && not d.switching

abbrev pub status_of : DeviceTold → MemStatus
status_of d = if d.started then (if is_open d.stand then Busy else (if d.switching then BusyInternal else Idle)) else Uninit

-- a job that is open is pending, and gave nothing yet
abbrev pub result_of : Stand → JobResult
result_of (Open j) = JobPending
result_of (Ended result given) = result

abbrev pub given_by : Stand → List ℕ
given_by (Open j) = []
given_by (Ended result given) = given

-- TURNS

-- the most turns of an operation
abbrev pub most_of : Figures → DeviceOp → ℕ
most_of f Read = f.read
most_of f Write = f.write
most_of f Invalidate = f.invalidate
most_of f Erase = f.erase

-- the operation of a job by its mark
abbrev pub op_of : Option Mark → DeviceOp
op_of None = Read
op_of (Some (Content bytes)) = Write
op_of (Some Invalid) = Invalidate
op_of (Some Erased) = Erase

-- the most turns that an open job adds
abbrev pub most_open : Fixed → Stand → ℕ
most_open f (Open j) = most_of (figures_at f j.number) (op_of j.mark)
most_open f (Ended result given) = 0

-- one fact where a test holds, and another where it doesn't
abbrev pub IfElse : Bool → Type 0 → Type 0 → Type 0
IfElse true P Q = P
IfElse false P Q = Q
