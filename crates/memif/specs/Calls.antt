-- What the calls of a memory device do. Each says first what it may change, as `new ≡ record old { .. }`, then how. The refusals'
-- numbers stand in Refusal.
use Rattle.std.specs.Prelude.{◌≡◌, ◌≢◌, ◌⊎◌, ◌==◌, ◌<◌, ◌≤◌, ◌+◌, ◌-◌, ◌*◌, ◌^◌, ◌&&◌, min, ℕ, Bool, true, false, if◌then◌else◌, List, [], length, Option, Some, None, IfSome, is_none, is_some, Result, Ok, Err}
use Rattle.nv_base.specs.Count.{Rose, next_count, last_count}
use Rattle.nv_base.specs.Plan.{Nears, Comes, ComesUnplanned, dropped}
use Rattle.nv_base.specs.declared.mark.Mark.{Mark}
use Rattle.nv_base.specs.declared.mark.Mark.TheVariants.{Content, Invalid, Erased}
use Rattle.memif.specs.declared.answer.DeviceRefusal.{DeviceRefusal}
use Rattle.memif.specs.declared.answer.DeviceRefusal.TheVariants.{Busy, Uninit, BadNumber, BadLength}
use Rattle.memif.specs.declared.answer.DeviceTurn.{DeviceTurn}
use Rattle.memif.specs.declared.answer.DeviceTurn.TheVariants.{Idle, Worked, Off}
use Rattle.memif.specs.declared.answer.JobResult.{JobResult}
use Rattle.memif.specs.declared.answer.JobResult.TheVariants.{JobOk, JobFailed, JobCanceled, BlockInconsistent, BlockInvalid}
use Rattle.memif.specs.declared.answer.PlainMark.{PlainMark}
use Rattle.memif.specs.declared.answer.PlainMark.TheVariants as plain
use Rattle.memif.specs.declared.answer.StartFault.{StartFault}
use Rattle.memif.specs.Told.{DeviceTold, PartTold, Part, First, Second, HasPart, Slot, Job, Stand, Open, Ended, Fixed, no_part, is_urgent, part_at, with_part, armed, slot_at, length_of, figures_at, part_of, is_open, nothing_open, most_of, most_open, op_of, IfElse}
use Rattle.memif.specs.Marks.{KeepsAll, DoubtsAt, Settles, ComesFrom, EachNumber}
use Rattle.memif.specs.Clock.{Clock, Seals, SameClock, FindsNow, Ticks}

-- URGENT WRITES
-- Writes of p pages in all that are ready, started urgent one after another, end with JobOk within p + 2 turns, while no
-- fault, no cut and no start-up comes: `wait` is at most 2 before them, each adds its pages to it, and each turn of them
-- lowers it. All this is said of the numbers of the first part.
abbrev pub is_first : Part → Bool
is_first First = true
is_first Second = false

-- an urgent job of the first part is open
abbrev pub urgent_first : Fixed → Stand → Bool
urgent_first f (Open j) = j.urgent && is_first (part_of f j)
urgent_first f (Ended result given) = false

-- an urgent write of s pages that was ready waits for its own, and the other ready pages stay ready
abbrev pub IsPrompt : ℕ → DeviceTold → DeviceTold → Type 0
IsPrompt s old new = s ≤ old.ready → (old.ready - s ≤ new.ready) × ((v : ℕ) × (w : ℕ) × (old.wait ≡ Some v) × (new.wait ≡ Some w) × (w ≤ v + s))

-- in the first part no fault was counted and no cut stands
pub record IsCalm (old new : DeviceTold) : Type 0 where
  pub faults : ¬ Rose old.first.faults new.first.faults
  pub off : new.first.off ≡ false

-- a turn of an urgent job of which something is promised: its end is nearer, and it doesn't fail
abbrev pub Nearer : DeviceTold → DeviceTold → Type 0
Nearer old new = (v : ℕ) → old.wait ≡ Some v → (old.ready ≤ new.ready) × ((w : ℕ) × (new.wait ≡ Some w) × (w < v)) × ((given : List ℕ) → new.stand ≢ Ended JobFailed given)

-- a turn of any other work keeps ready what is
abbrev pub TurnsReady : DeviceTold → DeviceTold → Type 0
TurnsReady old new = IsCalm old new → IfElse (urgent_first old.fixed old.stand) (Nearer old new) ((old.ready ≤ new.ready))

-- AT ANY TIME
pub record InOrder (d : DeviceTold) (c : Clock) : Type 0 where
  -- what is open ends within the most turns of the job and of the device's own work, and two devices' turns have a sum
  pub bounded : d.left ≤ d.fixed.own + most_open d.fixed d.stand
  pub fits : d.left < (if d.fixed.two then 2 ^ 64 else 2 ^ 63)
  pub ready : d.ready ≤ d.fixed.reserve
  -- with no urgent job open, an urgent write waits for two turns at most: of a gate that is owed, or of the seal of a bank
  pub wait : urgent_first d.fixed d.stand ≡ false → (w : ℕ) × (d.wait ≡ Some w) × (w ≤ 2)
  pub second : d.fixed.two ≡ false → d.second ≡ no_part
  pub now : FindsNow d c
  -- what it holds is told until the first operation, at least
  pub told : d.tells ≡ true → d.ops ≡ 0 → is_some d.slots ≡ true

-- THE OPEN JOB
abbrev pub is_read : Stand → Bool
is_read (Open j) = is_none j.mark
is_read (Ended result given) = false

-- the most pages of the record of a job; a read has none
abbrev pub record_pages : Fixed → Job → ℕ
record_pages f j = if is_some j.mark then (figures_at f j.number).pages else 0

-- those of the open job, and those of one that is urgent
abbrev pub pages_open : Fixed → Stand → ℕ
pages_open f (Open j) = record_pages f j
pages_open f (Ended result given) = 0

abbrev pub pages_urgent : Fixed → Stand → ℕ
pages_urgent f stand = if urgent_first f stand then pages_open f stand else 0

-- the free pages that the open job needs: one that isn't urgent leaves those that are kept
abbrev pub pages_needed : Fixed → Stand → ℕ
pages_needed f stand = pages_open f stand + (if is_urgent stand then 0 else f.reserve)

-- FREE PAGES
-- Pages that are free now are ready for urgent writes, as far as they are kept, beside the record of an urgent job that is open,
-- while it is started and its power is on.
abbrev pub FreesReady : DeviceTold → Clock → Type 0
FreesReady d c = d.started ≡ true → d.first.off ≡ false → (s : ℕ) → c.spare d.ops s → min d.fixed.reserve s ≤ d.ready + pages_urgent d.fixed d.stand

-- a job of the first part is open
abbrev pub job_first : Fixed → Stand → Bool
job_first f (Open j) = is_first (part_of f j)
job_first f (Ended result given) = false

-- With no switch open a job of the first part other than a read takes no more turns than the pages of its record, where the pages that
-- it needs are free.
abbrev pub RoomIsLeft : DeviceTold → Clock → Type 0
RoomIsLeft d c =
    d.started ≡ true → d.first.off ≡ false → d.switching ≡ false → job_first d.fixed d.stand ≡ true → is_read d.stand ≡ false
    → (s : ℕ) → c.spare d.ops s → pages_needed d.fixed d.stand ≤ s → d.left ≤ pages_open d.fixed d.stand

-- behind any call but a turn: the clock is as it was
pub record ClockStays (clock : Clock) (new : DeviceTold) (clock_new : Clock) : Type 0 where
  pub same : SameClock clock clock_new
  pub order : InOrder new clock_new

abbrev pub Arms : ℕ → ℕ → ℕ → DeviceTold → Clock → DeviceTold → Clock → Type 0
Arms which nth keep old clock new clock_new = (new ≡ armed which nth keep old) × ClockStays clock new clock_new

-- THE START OF A JOB
-- what a start asks for: a job, and the length where the call has one
pub record Wish : Type 0 where
  pub job : Job
  pub length : Option ℕ

-- a length that was given is the number's
abbrev pub length_refusal : Option ℕ → Option ℕ → Option DeviceRefusal
length_refusal given None = Some BadNumber
length_refusal None (Some length) = None
length_refusal (Some given) (Some length) = if given == length then None else Some BadLength

-- the first refusal of a number, and of a length where one is given, that holds, if any
abbrev pub refusal_of : DeviceTold → ℕ → Option ℕ → Option DeviceRefusal
refusal_of d number length = if is_open d.stand then Some Busy else (if d.started then length_refusal length (length_of d.fixed.numbers number) else Some Uninit)

-- the job is open, and nothing else began
pub record Opens (j : Job) (old new : DeviceTold) : Type 0 where
  pub only : new ≡ record old { slots = new.slots; stand = Open j; left = new.left; ready = new.ready; wait = new.wait }
  pub marks : DoubtsAt j.number j.mark old new
  -- it raises `left` by at most the most turns of its operation, and never lowers it
  pub left_low : old.left ≤ new.left
  pub left_high : new.left ≤ old.left + most_of (figures_at old.fixed j.number) (op_of j.mark)
  -- beside an open switch by its pages and an owed gate, and once more where it is urgent, so that its number is copied anew
  pub left_beside : part_of old.fixed j ≡ First → old.switching ≡ true → new.left ≤ old.left + (if j.urgent then 2 else 1) * (record_pages old.fixed j + 1)
  pub ready : IfElse (urgent_first old.fixed (Open j)) (IsPrompt (figures_at old.fixed j.number).pages old new) ((old.ready ≤ new.ready))

-- taken exactly where no refusal holds; refused with the first that holds, and then nothing changes
abbrev pub AcceptsAs : Wish → Result (Unit {0}) DeviceRefusal → DeviceTold → DeviceTold → Type 0
AcceptsAs w (Ok _) old new = (refusal_of old w.job.number w.length ≡ None) × Opens w.job old new
AcceptsAs w (Err refusal) old new = (refusal_of old w.job.number w.length ≡ Some refusal) × (new ≡ old)

abbrev pub Accepts : Wish → Result (Unit {0}) DeviceRefusal → DeviceTold → Clock → DeviceTold → Clock → Type 0
Accepts w answer old clock new clock_new = AcceptsAs w answer old new × ClockStays clock new clock_new

-- CANCEL: an open job ends, and its mark stays a doubt or is none any more
pub record IsCanceled (old new : DeviceTold) : Type 0 where
  pub only : new ≡ record old { slots = new.slots; stand = Ended JobCanceled []; left = new.left; ready = new.ready; wait = new.wait }
  pub marks : KeepsAll old new
  pub left : new.left ≤ old.left
  pub ready : old.ready ≤ new.ready

-- with none open nothing changes
abbrev pub Cancels : DeviceTold → Clock → DeviceTold → Clock → Type 0
Cancels old clock new clock_new = IfElse (is_open old.stand) (IsCanceled old new) (new ≡ old) × ClockStays clock new clock_new

-- COUNTS OF FAULTS: no count falls; the part's rises at most as its flash's, or that one stands at its end
pub record FaultsGrow (old new : PartTold) : Type 0 where
  pub faults : old.faults ≤ new.faults
  pub flash : old.flash_faults ≤ new.flash_faults
  pub tied : (new.faults + old.flash_faults ≤ old.faults + new.flash_faults) ⊎ (last_count ≤ new.flash_faults)

-- A START-UP makes no changing operation, begins no cut, and drops a plan
pub record PowersUp (old new : PartTold) : Type 0 where
  pub only : new ≡ record old { faults = new.faults; flash_faults = new.flash_faults; off = new.off; planning = dropped old.planning }
  pub faults : FaultsGrow old new
  pub off : new.off ≡ true → old.off ≡ true

-- at Ok the power is on and what was found is settled for each number; at Err a fault was counted
abbrev pub ComesUp : Result (Unit {0}) StartFault → DeviceTold → DeviceTold → Type 0
ComesUp (Ok _) old new = (new.started ≡ true) × (new.first.off ≡ false) × (new.second.off ≡ false) × EachNumber (λ n s t. t.doubts ≡ []) old new
ComesUp (Err _) old new = (new.started ≡ false) × (Rose old.first.faults new.first.faults ⊎ Rose old.second.faults new.second.faults)

-- whatever it answers, it is counted, and drops an open job and work of its own
pub record StartsUp (answer : Result (Unit {0}) StartFault) (old : DeviceTold) (clock : Clock) (new : DeviceTold) (clock_new : Clock) : Type 0 where
  pub only : new ≡ record old {
    slots = new.slots;
    started = new.started;
    stand = Ended JobOk [];
    switching = false;
    starts = old.starts + 1;
    first = new.first;
    second = new.second;
    left = 0;
    ready = new.ready;
    wait = new.wait;
  }
  pub comes_to : ComesUp answer old new
  -- each number's mark and doubts were its settled mark or a doubt of it before
  pub marks : EachNumber (λ n s t. ComesFrom s t) old new
  pub first : PowersUp old.first new.first
  pub second : PowersUp old.second new.second
  pub clock_stays : ClockStays clock new clock_new

-- THE END OF A JOB
-- what a read of a mark comes to, and what it gives: a content may fail, Invalid and Erased have results of their own
abbrev pub Reads : Mark → JobResult → List ℕ → Type 0
Reads (Content bytes) JobOk given = given ≡ bytes
Reads (Content bytes) JobFailed given = given ≡ []
Reads Invalid BlockInvalid given = given ≡ []
Reads Erased BlockInconsistent given = given ≡ []
Reads mark result given = ⊥

-- whether marks are told or not, JobOk gives the number's length, and any other end of a read nothing
abbrev pub Gives : JobResult → Option ℕ → List ℕ → Type 0
Gives JobOk (Some n) given = length given ≡ n
Gives JobFailed n given = given ≡ []
Gives BlockInconsistent n given = given ≡ []
Gives BlockInvalid n given = given ≡ []
Gives result n given = ⊥

abbrev pub ReadsAt : ℕ → Option (List Slot) → JobResult → List ℕ → DeviceTold → Type 0
ReadsAt number (Some slots) result given old = Reads (slot_at old.fixed.numbers slots number).settled.mark result given
ReadsAt number None result given old = Unit {0}

-- another job: JobOk settles its mark, JobFailed settles none
abbrev pub Writes : JobResult → ℕ → Mark → DeviceTold → DeviceTold → Type 0
Writes JobOk number mark old new = Settles number mark old new
Writes JobFailed number mark old new = KeepsAll old new
Writes result number mark old new = ⊥

abbrev pub EndsAs : Option Mark → ℕ → JobResult → List ℕ → DeviceTold → DeviceTold → Type 0
EndsAs None number result given old new = ReadsAt number old.slots result given old × Gives result (length_of old.fixed.numbers number) given
EndsAs (Some mark) number result given old new = Writes result number mark old new × (given ≡ [])

-- it failed only where the count of its part rose in this very turn, or, unless it is a read, where it is worn out for such a job
abbrev pub MayFail : Part → Job → DeviceTold → DeviceTold → Clock → Type 0
MayFail p j old new clock_new = Rose (part_at p old).faults (part_at p new).faults ⊎ ((j.mark ≢ None) × clock_new.worn new.ops j.number j.urgent)

-- A TURN
-- A switch goes on, and all pages that are kept are ready. So it is behind an operation that left it at its seal, up to the next one.
pub record IsSealing (d : DeviceTold) : Type 0 where
  pub switching : d.switching ≡ true
  pub ready : urgent_first d.fixed d.stand ≡ false → d.fixed.reserve ≤ d.ready

-- the turn works on the part of the open job; with none open, on the first one, whose alone the device's own work is
abbrev pub IsOf : Part → Fixed → Stand → Type 0
IsOf p f (Open j) = HasPart f p × (p ≡ part_of f j)
IsOf p f (Ended result given) = p ≡ First

-- a job goes on and its end is nearer, so that a fault ends it; or it ends; with none open own work goes on
abbrev pub JobTurns : Part → Stand → Stand → DeviceTold → DeviceTold → Clock → Type 0
JobTurns p (Open j) (Open j') old new clock_new = (j' ≡ j) × KeepsAll old new × (new.left < old.left)
JobTurns p (Open j) (Ended result given) old new clock_new = EndsAs j.mark j.number result given old new × (result ≡ JobFailed → MayFail p j old new clock_new)
JobTurns p (Ended result given) stand old new clock_new = (stand ≡ Ended result given) × KeepsAll old new

-- without a cut the plan is one operation nearer; or it is as it was, and no operation was made, or a fault was counted
abbrev pub PlanStays : ℕ → ℕ → PartTold → PartTold → Type 0
PlanStays ops ops_new old new =
    ((new.planning ≡ old.planning) × ((ops_new ≡ ops) ⊎ Rose old.faults new.faults)) ⊎ (Nears old.planning new.planning × (ops_new ≡ next_count ops))

-- a cut was planned for its operation, or is counted as one without a plan
abbrev pub PlanCuts : ℕ → ℕ → PartTold → PartTold → Type 0
PlanCuts ops ops_new old new = (Comes old.planning new.planning × (ops_new ≡ next_count ops)) ⊎ ComesUnplanned old.planning new.planning

-- the part that is worked on was on, and is off behind a cut; at most one changing operation
pub record PartTurns (cut : Bool) (ops ops_new : ℕ) (old new : PartTold) : Type 0 where
  pub only : new ≡ record old { faults = new.faults; flash_faults = new.flash_faults; off = cut; planning = new.planning }
  pub on : old.off ≡ false
  pub later : ops ≤ ops_new
  pub one : (ops_new ≡ ops) ⊎ (ops_new ≡ next_count ops)
  pub plan : IfElse cut (PlanCuts ops ops_new old new) (PlanStays ops ops_new old new)
  pub faults : FaultsGrow old new

pub record Works (p : Part) (old new : DeviceTold) (clock_new : Clock) : Type 0 where
  pub only : new ≡ record (with_part p (part_at p new) old) { slots = new.slots; stand = new.stand; switching = new.switching; ops = new.ops; left = new.left; ready = new.ready; wait = new.wait }
  -- the last start-up answered Ok
  pub up : old.started ≡ true
  pub of : IsOf p old.fixed old.stand
  pub part : PartTurns false old.ops new.ops (part_at p old) (part_at p new)
  pub job : JobTurns p old.stand new.stand old new clock_new
  -- a turn of a read makes no changing operation, and leaves every number's slot as it was
  pub read : is_read old.stand ≡ true → (new.ops ≡ old.ops) × (new.slots ≡ old.slots)
  pub nearer : (new.left < old.left) ⊎ Rose (part_at p old).faults (part_at p new).faults
  pub ready : TurnsReady old new
  pub seals : (k : ℕ) → new.ops ≡ k + 1 → new.ops < last_count → clock_new.was Seals k → (old.ops ≤ k) ⊎ IsSealing old → IsSealing new

-- a cut comes: no job ends in it, and it is no turn of a read
pub record IsCut (p : Part) (old new : DeviceTold) : Type 0 where
  pub only : new ≡ record (with_part p (part_at p new) old) { slots = new.slots; switching = new.switching; ops = new.ops; left = new.left; ready = new.ready; wait = new.wait }
  pub of : IsOf p old.fixed old.stand
  pub part : PartTurns true old.ops new.ops (part_at p old) (part_at p new)
  pub no_read : is_read old.stand ≡ false
  pub marks : KeepsAll old new

-- while the part is off everything stands
abbrev pub IsOff : Part → DeviceTold → Clock → DeviceTold → Clock → Type 0
IsOff p old clock new clock_new = ((part_at p old).off ≡ true) × IsOf p old.fixed old.stand × (new ≡ old) × SameClock clock clock_new

-- Idle exactly where nothing is open; Worked brings the end nearer, or a fault was counted; Off only while a cut stands
abbrev pub TurnsAs : DeviceTurn → DeviceTold → Clock → DeviceTold → Clock → Type 0
TurnsAs Idle old clock new clock_new = (nothing_open old ≡ true) × (new ≡ old) × SameClock clock clock_new
TurnsAs Worked old clock new clock_new = (nothing_open old ≡ false) × ((p : Part) × Works p old new clock_new × Ticks p Worked old clock new clock_new)
TurnsAs Off old clock new clock_new = (nothing_open old ≡ false) × ((p : Part) × (IsOff p old clock new clock_new ⊎ (IsCut p old new × Ticks p Off old clock new clock_new)))

abbrev pub Turns : DeviceTurn → DeviceTold → Clock → DeviceTold → Clock → Type 0
Turns answer old clock new clock_new = TurnsAs answer old clock new clock_new × InOrder new clock_new

-- MARKS WITHOUT THEIR CONTENTS
abbrev pub kind_of : Mark → PlainMark
kind_of (Content bytes) = plain.Content
kind_of Invalid = plain.Invalid
kind_of Erased = plain.Erased

-- the answer is None exactly where the number isn't configured, else the kind of its settled mark, where that is told
pub record IsKind (d : DeviceTold) (n : ℕ) (answer : Option PlainMark) : Type 0 where
  pub configured : is_some answer ≡ is_some (length_of d.fixed.numbers n)
  pub kind : IfSome answer (λ kind. IfSome d.slots (λ slots. d.started ≡ true → kind ≡ kind_of (slot_at d.fixed.numbers slots n).settled.mark))
