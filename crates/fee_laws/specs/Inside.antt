-- The fields of a device, and what it is by them.
use Rattle.std.specs.Prelude.{◌≡◌, ◌≢◌, ◌⊎◌, ◌≤◌, ◌+◌, ℕ, min, Bool, IsTrue, true, false, nat_le, is_some, List, [], length, take, slice_get, Option, Some, None, IfSome}
use Rattle.nv_base.specs.Count.{last_count}
use Rattle.nv_base.specs.Geometry.{sectors_of_bank}
use Rattle.nv_base.specs.declared.instance.DeviceNumber.{DeviceNumber}
use Rattle.nv_base.specs.declared.job.DeviceOp.{DeviceOp}
use Rattle.nv_base.specs.declared.job.DeviceOp.TheVariants.{Read, Write, Invalidate, Erase}
use Rattle.nv_base.specs.declared.mark.Mark.{Mark}
use Rattle.nv_base.specs.declared.mark.Mark.TheVariants as mark
use Rattle.memif.specs.declared.answer.JobResult.{JobResult}
use Rattle.memif.specs.declared.answer.JobResult.TheVariants.{JobPending}
use Rattle.memif.specs.Told.{Stand, Open, Ended, Fixed}
use Rattle.memif.specs.Clock.{Seals}
use Rattle.memif.specs.Calls.{InOrder}
use Rattle.fls_model.specs.Attach.{AreBytesOf}
use Rattle.fls_model.specs.Told.{Told, Change}
use Rattle.fls_jobs.specs.Start.{IsIdle}
use Rattle.fls_jobs.specs.State.{FlsState}
use Rattle.fee_format.specs.declared.rec_head.RecHead.{RecHead}
use Rattle.fee_image.specs.May.{May}
use Rattle.fee_image.specs.Copies.{Flag, copied_of}
use Rattle.fee_switch_laws.specs.fee_log.Index.{clear_flags}
use Rattle.fee_switch_laws.specs.fee_log.Log.{work_in, erased_state}
use Rattle.fee_switch_laws.specs.fee_switch.declared.active.ActiveBank.{ActiveBank}
use Rattle.fee_course.specs.declared.course.Course.{Course}
use Rattle.fee_course.specs.declared.course.Course.TheVariants as course
use Rattle.fee_switch_laws.specs.fee_switch.Banks.{BanksState, is_worn_out}
use Rattle.fee_switch_laws.specs.Shown.{old_shown, phase_shown}
use Rattle.fee_switch_laws.specs.Turns.{IsGoing}
use Rattle.fee_switch_laws.specs.KeepsRoom.{KeepsRoom}
use Rattle.fee_switch_laws.specs.Space.{HasSpace, free_pages}
use Rattle.promise_device.specs.Making.{Making, banks_of}
use Rattle.promise_device.specs.Traits.{is_such}
use Rattle.fee_told.specs.Slots.{Memory, HasJob, settled_in}
use Rattle.fee_told.specs.SlotLaws.{IsHeld, SamePlaces}
use Rattle.fee_told.specs.fls_told.Runs.{HasRun, CountsEachCut}
use Rattle.fee_told.specs.Device.{Device, tells_now, told_of, clock_of, flash_device}
use Rattle.fee_told.specs.Whole.{HoldsBanks}
use Rattle.fee_told.specs.Figures.{fixed_for, left_of, ready_of, wait_of}
use Rattle.fee_laws.specs.declared.job.FeeJob.{FeeJob}
use Rattle.fee_laws.specs.Copied.{flags_of, IsCopying}
use Rattle.fee_laws.specs.Record.{IsJobOf, IsInWork, IsReady}
use Rattle.fee_laws.specs.Work.{work_of, waits_of, pages_free, is_urgent_job, seal_turns}

pub record Parts : Type 0 where
  pub fls : FlsState
  pub banks : BanksState
  -- room for a content: the open job's, or the one that the last job read
  pub content : List ℕ
  pub job : Option FeeJob
  -- what the last job came to, and the length of the content that it gave
  pub last : JobResult
  pub given : ℕ
  pub starts : ℕ
  pub started : Bool
  pub faults : ℕ
  pub worn : Option ℕ
  pub operations : List Change

-- WHERE THE JOBS STAND
abbrev pub mark_of : DeviceOp → List ℕ → Option Mark
mark_of Read content = None
mark_of Write content = Some (mark.Content content)
mark_of Invalidate content = Some mark.Invalid
mark_of Erase content = Some mark.Erased

abbrev pub stand_of : List ℕ → Option FeeJob → JobResult → ℕ → Stand
stand_of content (Some j) last given = Open (record { number = j.number.0; mark = mark_of j.op (take j.length content); urgent = j.urgent })
stand_of content None last given = Ended last (take given content)

-- IN MEMORY
-- the first bytes of a list, as many as a record in work has
abbrev pub body_of : Option RecHead → List ℕ → List ℕ
body_of None bytes = []
body_of (Some h) bytes = take h.length bytes

abbrev pub memory_of : Parts → Memory
memory_of s = record {
  old = old_shown s.banks.active s.banks.log (body_of (work_in s.banks.log.tail) s.content);
  target = s.banks.target;
  phase = phase_shown s.banks.course s.banks (body_of (work_in s.banks.copies.tail) s.banks.buffer);
  stand = stand_of s.content s.job s.last s.given;
}

-- over its banks
abbrev pub fixed_in : Making → Fixed
fixed_in m = fixed_for m.geometry.page (sectors_of_bank m.geometry m.banks) m.numbers m.reserve

abbrev pub device_of : Making → Told → Parts → Device
device_of m entry s = record {
  making = m;
  figures = (fixed_in m).figures;
  own = (fixed_in m).own;
  entry = entry;
  flash = s.fls.flash;
  operations = s.operations;
  faults = s.faults;
  worn = s.worn;
  starts = s.starts;
  started = s.started;
  memory = memory_of s;
  left = left_of (stand_of s.content s.job s.last s.given) (work_of m.reserve s.banks s.job);
  ready = ready_of m.reserve (nat_le 1 (seal_turns s.banks.course)) (pages_free s.banks s.job);
  wait = wait_of (waits_of s.banks s.job);
}

-- WHAT HOLDS OF EACH DEVICE
-- it is over the flash and of the numbers that it was made for
pub record IsMadeFor (m : Making) (s : Parts) : Type 0 where
  pub geometry : s.fls.geometry ≡ m.geometry
  pub idle : IsIdle s.fls
  pub banks_geometry : s.banks.geometry ≡ m.geometry
  pub shared : s.banks.banks ≡ m.banks
  pub numbers : s.banks.log.numbers ≡ m.numbers
  pub space : HasSpace m.numbers m.geometry m.banks m.reserve
  pub bytes : IfSome s.fls.flash.bytes (λ b. AreBytesOf m.geometry b.now)
  -- a content of any length fits
  pub room : length s.content ≡ 4096
  pub given : s.given ≤ 4096
  pub ended : s.last ≢ JobPending

-- the active bank, in whose format the log is; without one the log is empty, but for its flags
abbrev pub IsActiveOf : BanksState → Option ActiveBank → Type 0
IsActiveOf s None = s.log ≡ record (erased_state s.geometry s.banks s.log.bank s.log.numbers) { flags = s.log.flags }
IsActiveOf s (Some a) = s.log.format ≡ a.head.format

-- THE OPEN SWITCH
-- the flags of the numbers, with what these bytes show at their places
abbrev pub flags_in : Making → Parts → List ℕ → List Flag
flags_in m s bytes = flags_of m.numbers s.banks.log.places s.banks.log.flags (settled_in (banks_of m) m.numbers bytes (memory_of s).old)

-- the target may show what the flags say
pub record ShowsCopies (m : Making) (s : Parts) (c : Course) (bytes : List ℕ) : Type 0 where
  pub held : IsHeld (banks_of m) m.numbers bytes (memory_of s) (copied_of (flags_in m s bytes))
  pub copy : IsCopying c (work_in s.banks.copies.tail) s.banks.buffer (flags_in m s bytes)

-- one is open where the active bank has not the last generation, and is under way; without one no flag is set
abbrev pub HasSwitch : BanksState → Option Course → Type 0
HasSwitch s None = s.log.flags ≡ clear_flags s.log.numbers
HasSwitch s (Some c) = (is_worn_out s.active ≡ false) × IsGoing s c

-- a record in work that isn't urgent began where the pages that are kept were free beside it
abbrev pub LeavesKept : ℕ → BanksState → Option FeeJob → Type 0
LeavesKept reserve s job = is_some (work_in s.log.tail) ≡ true → is_urgent_job job ≡ false → reserve ≤ free_pages s

-- while it is started
pub record IsAtWork (m : Making) (s : Parts) : Type 0 where
  pub active : IsActiveOf s.banks s.banks.active
  pub job : IfSome s.job (IsJobOf m.numbers)
  pub work : IfSome (work_in s.banks.log.tail) (IsInWork s.banks s.job)
  pub kept : LeavesKept m.reserve s.banks s.job
  pub ready : IfSome s.job (IsReady s.banks)
  pub switch : HasSwitch s.banks s.banks.course

-- while the target is copied the last operation isn't one that left a switch at its seal
abbrev pub is_copying : Option Course → Bool
is_copying (Some (course.Copy work)) = true
is_copying _ = false

abbrev pub SealsEarlier : Making → Parts → Type 0
SealsEarlier m s = (k : ℕ) (x : Change) → length s.operations ≡ k + 1 → slice_get s.operations k ≡ Some x → IsTrue (is_such m Seals x) → is_copying s.banks.course ≡ false

-- before nothing is open
pub record IsAtRest (s : Parts) : Type 0 where
  pub job : s.job ≡ None
  pub course : s.banks.course ≡ None

-- a device that is worn out opens no switch any more
pub record IsWorn (s : Parts) (since : ℕ) : Type 0 where
  pub passed : since ≤ min (length s.operations) last_count
  pub shut : s.banks.course ≡ None

-- The bytes hold its banks, with these in memory. While a power cut stands they may differ from its own: a page that was cut
-- may have left anything; where the numbers stand, and the open job, are the same. They are its own, or no record is in work
-- in them, which any job fits.
pub record HoldsBehind (d : Device) : Type 0 where
  pub behind : Memory
  pub copied : May
  pub banks : HoldsBanks (record d { memory = behind }) copied
  pub places : SamePlaces behind.old d.memory.old
  pub stand : behind.stand ≡ d.memory.stand
  pub on : d.flash.off ≡ false → behind ≡ d.memory
  pub idle : (behind ≡ d.memory) ⊎ ((stand : Stand) → HasJob d.making.numbers stand behind.old)

pub record IsDevice (d : Device) : Type 0 where
  pub run : HasRun (flash_device d)
  pub held : d.started ≡ true → HoldsBehind d
  pub order : InOrder (told_of d) (clock_of d)
  pub faults : d.faults ≤ last_count

-- while the power is on: where it tells its numbers, a switch's target is as its flags say
abbrev pub TellsCopies : Making → Told → Parts → Type 0
TellsCopies m entry s = s.fls.flash.off ≡ false → IsTrue (tells_now (device_of m entry s)) → IfSome s.fls.flash.bytes (λ b. IfSome s.banks.course (λ c. ShowsCopies m s c b.now))

pub record IsSound (m : Making) (entry : Told) (s : Parts) (listed : List (DeviceNumber × ℕ)) (kept count : ℕ) (is_off : Bool) : Type 0 where
  pub made_for : IsMadeFor m s
  pub device : IsDevice (device_of m entry s)
  pub rests : s.started ≡ false → IsAtRest s
  pub works : s.started ≡ true → IsAtWork m s
  pub room : s.started ≡ true → s.fls.flash.off ≡ false → KeepsRoom m.reserve s.banks
  pub copies : TellsCopies m entry s
  -- its flash counted each power cut that no plan asked for
  pub cuts : CountsEachCut entry s.fls.flash
  pub worn : (since : ℕ) → s.worn ≡ Some since → IsWorn s since
  pub seals : SealsEarlier m s
  pub numbers : listed ≡ m.numbers
  pub reserve : kept ≡ m.reserve
  pub ops : count ≡ min (length s.operations) last_count
  pub off : s.started ≡ true → is_off ≡ s.fls.flash.off
