-- A run of turns with a job in hand.
use Rattle.std.specs.Prelude.{◌≡◌, ◌⊎◌, ◌<◌, ◌≤◌, ◌+◌, ◌^◌, ℕ, Bool, false, true, List, [], ◌∷◌, length, Some, Ok}
use Rattle.block_machine.specs.nv_base.Count.{Rose}
use Rattle.block_machine.specs.nv_base.Marks.{number_of}
use Rattle.memif.specs.Told as device
use Rattle.memif.specs.Told.{DeviceTold, Fixed, First, Part, Job, Stand, Open, figures_at, part_at, is_open}
use Rattle.memif.specs.Marks.{KeepsAll}
use Rattle.memif.specs.Calls.{Wish, AcceptsAs, PartTurns, Opens, EndsAs, Works}
use Rattle.memif.specs.Clock.{Clock}
use Rattle.memif.specs.Trials.{IsFaultless}
use Rattle.block_machine.specs.Words.{JobKind, WriteJob}
use Rattle.job_programs.specs.Program.{Program, next_in, after}
use Rattle.nvm_figures.specs.Left.{stack_left}
use Rattle.nvm_device_laws.specs.Outcomes.{outcome_by}
use Rattle.nvm_figures.specs.Job.{IsSameJob, job_at, program_next}
use Rattle.nvm_figures.specs.Drain.{hand_work}
use Rattle.nvm_figures.specs.Urgent.{IsOnTime}

-- an open job is that of the operation that the program is at
abbrev pub IsInWork : List ℕ → Bool → Program → Stand → Type 0
IsInWork content urgent p (Open j) = (index : ℕ) × (next_in p ≡ Some index) × (j ≡ job_at p index content urgent)
IsInWork content urgent p (device.Ended result given) = Unit {0}

-- it is an urgent write, of numbers of the first part
pub record IsUrgentWrite (f : Fixed) (urgent : Bool) (block : ℕ) (kind : JobKind) : Type 0 where
  pub is_urgent : urgent ≡ true
  pub is_write : kind ≡ WriteJob
  pub of_first : (index : ℕ) → (figures_at f (number_of (record { block = block; index = index }))).part ≡ First

-- the job goes on, or the program gets what it came to
abbrev pub Comes : Program → Job → DeviceTold → Program → DeviceTold → Stand → Type 0
Comes p j begun q new (Open k) = (k ≡ j) × (q ≡ p) × KeepsAll begun new
Comes p j begun q new (device.Ended result given) = (q ≡ after p (outcome_by j.mark result)) × EndsAs j.mark j.number result given begun new

-- A turn of a job in hand, with a content and its urgency where it is a write: it starts the next operation where none is
-- open, and makes one turn of the device, with at most one changing operation.
pub record IsTurnOf (content : List ℕ) (urgent : Bool) (p : Program) (old : DeviceTold) (q : Program) (new : DeviceTold) : Type 0 where
  pub index : ℕ
  pub next : next_in p ≡ Some index
  pub begun : DeviceTold
  pub begins : ((begun ≡ old) × (old.stand ≡ Open (job_at p index content urgent)))
      ⊎ ((is_open old.stand ≡ false) × Opens (job_at p index content urgent) old begun)
  pub turn : (part : Part) × PartTurns false begun.ops new.ops (part_at part begun) (part_at part new)
  pub comes : Comes p (job_at p index content urgent) begun q new new.stand

-- What follows: no count of faults falls, it lowers what is left or a fault was counted, it lowers the work of a drain, and
-- leaves an urgent write on time.
pub record IsJobTurned (content : List ℕ) (urgent : Bool) (p : Program) (old : DeviceTold) (q : Program) (new : DeviceTold) : Type 0 where
  pub made : IsTurnOf content urgent p old q new
  pub faults : (part : Part) → (part_at part old).faults ≤ (part_at part new).faults
  pub fixed : new.fixed ≡ old.fixed
  pub same : IsSameJob p q
  pub tries : q.failures ≤ q.retries
  pub left : (stack_left (Some q) new < stack_left (Some p) old) ⊎ ((part : Part) × Rose (part_at part old).faults (part_at part new).faults)
  pub less : hand_work (Some q) new < hand_work (Some p) old
  pub soon : (pages turns : ℕ) → ¬ Rose old.first.faults new.first.faults → IsUrgentWrite old.fixed urgent p.block p.kind → IsOnTime pages turns p old
      → IsOnTime pages (turns + 1) q new

-- a job of the device is open: it was, or was started from what asks for it
abbrev pub IsStarted : Job → DeviceTold → DeviceTold → Type 0
IsStarted j old begun = ((begun ≡ old) × (old.stand ≡ Open j))
    ⊎ ((w : Wish) × (w.job ≡ j) × AcceptsAs w (Ok tt) old begun × (begun.left < 2 ^ 64))

-- It follows over any device.
abbrev pub JobTurnsKeep : DeviceTold → Clock → Type 0
JobTurnsKeep new clock =
    (content : List ℕ) (urgent : Bool) (p : Program) (index : ℕ) (old begun : DeviceTold) (q : Part) → p.failures ≤ p.retries
    → next_in p ≡ Some index → IsStarted (job_at p index content urgent) old begun → Works q begun new clock
    → IsJobTurned content urgent p old (program_next p begun.stand new.stand) new

-- what stands behind a turn
pub record JobTurn : Type 0 where
  pub program : Program
  pub device : DeviceTold

-- turns of a job in order, each told by what stands behind it
abbrev pub AreTurned : List ℕ → Bool → Program → DeviceTold → List JobTurn → Program → DeviceTold → Type 0
AreTurned content urgent p old [] q new = (q ≡ p) × (new ≡ old)
AreTurned content urgent p old (m ∷ ms) q new = IsJobTurned content urgent p old m.program m.device × AreTurned content urgent m.program m.device ms q new

-- Where no fault was counted, each lowered what is left by one at least.
abbrev pub RunsAreWithin : Type 0
RunsAreWithin =
    (content : List ℕ) (urgent : Bool) (p : Program) (old : DeviceTold) (run : List JobTurn) (q : Program) (new : DeviceTold) → AreTurned content urgent p old run q new
    → IsFaultless old new → length run + stack_left (Some q) new ≤ stack_left (Some p) old

-- An urgent write that was on time stays so.
abbrev pub RunsAreSoon : Type 0
RunsAreSoon =
    (content : List ℕ) (urgent : Bool) (p : Program) (old : DeviceTold) (run : List JobTurn) (q : Program) (new : DeviceTold) (pages turns : ℕ)
    → AreTurned content urgent p old run q new → IsFaultless old new → IsUrgentWrite old.fixed urgent p.block p.kind → IsOnTime pages turns p old
    → IsOnTime pages (turns + length run) q new
