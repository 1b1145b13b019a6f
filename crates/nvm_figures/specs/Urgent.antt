-- How soon an urgent write ends.
use Rattle.std.specs.Prelude.{◌≡◌, ◌≢◌, ◌≤◌, ◌+◌, ℕ, Bool, true, false, List, [], ◌∷◌, drop, Some, None, Ok}
use Rattle.block_machine.specs.nv_base.Count.{Rose}
use Rattle.block_machine.specs.nv_base.Marks.{number_of}
use Rattle.memif.specs.declared.answer.JobResult.TheVariants.{JobFailed}
use Rattle.memif.specs.Told.{DeviceTold, Fixed, Part, Stand, Open, Ended, figures_at, is_open}
use Rattle.memif.specs.Clock.{Clock}
use Rattle.memif.specs.Calls.{Wish, AcceptsAs, InOrder, Works, urgent_first}
use Rattle.job_programs.specs.Program.{Program, next_in}
use Rattle.nvm_figures.specs.Left.{ahead}
use Rattle.nvm_figures.specs.Job.{IsOperation, program_next}

-- the pages of a block's records on these instances
abbrev pub pages_of : Fixed → ℕ → List ℕ → ℕ
pages_of f block [] = 0
pages_of f block (i ∷ is) = (figures_at f (number_of (record { block = block; index = i }))).pages + pages_of f block is

-- those of a program whose job isn't taken yet
abbrev pub untaken : Program → Bool → List ℕ
untaken p true = drop 1 (ahead p)
untaken p false = ahead p

abbrev pub pages_ahead : Program → DeviceTold → ℕ
pages_ahead p d = pages_of d.fixed p.block (untaken p (is_open d.stand))

-- an urgent write is posted within so many turns from its acceptance: those of its records' pages, one for its Pick, two of
-- a gate or a seal that it waits for, one for its Post
abbrev pub urgent_turns : Fixed → Program → ℕ
urgent_turns f p = pages_of f p.block p.indices + 4

-- So many turns of the device behind its Pick it is on time: the pages that aren't taken yet are ready, and it ends within
-- two turns more than its pages.
pub record IsOnTime (pages turns : ℕ) (p : Program) (d : DeviceTold) : Type 0 where
  pub ready : pages_ahead p d ≤ d.ready
  pub wait : (w : ℕ) × (d.wait ≡ Some w) × (turns + w + pages_ahead p d ≤ pages + 2)

-- It is so at its Pick, where its pages are ready and no urgent job is open.
abbrev pub PicksAreOnTime : DeviceTold → Clock → Type 0
PicksAreOnTime d clock =
    (p : Program) → InOrder d clock → is_open d.stand ≡ false → p.done ≡ [] → pages_of d.fixed p.block p.indices ≤ d.ready
    → IsOnTime (pages_of d.fixed p.block p.indices) 0 p d

-- until then a turn with no urgent job open keeps ready what is, while no fault is counted and no cut comes
abbrev pub TurnsKeepReady : DeviceTold → Clock → Type 0
TurnsKeepReady new clock =
    (old : DeviceTold) (q : Part) → Works q old new clock → ¬ Rose old.first.faults new.first.faults → old.first.off ≡ false
    → urgent_first old.fixed old.stand ≡ false → old.ready ≤ new.ready

-- the start of the next of its records leaves it on time
abbrev pub StartsStayOnTime : Type 0
StartsStayOnTime =
    (pages turns : ℕ) (old new : DeviceTold) (w : Wish) (p : Program) (index : ℕ) → IsOperation p index w.job
    → urgent_first old.fixed (Open w.job) ≡ true → AcceptsAs w (Ok tt) old new → IsOnTime pages turns p old → IsOnTime pages turns p new

abbrev pub DoesntFail : Stand → Type 0
DoesntFail stand = (given : List ℕ) → stand ≢ Ended JobFailed given

-- and so does each turn of the device, while no fault is counted; none of its jobs fails
abbrev pub TurnsStayOnTime : DeviceTold → Clock → Type 0
TurnsStayOnTime new clock =
    (pages turns : ℕ) (old : DeviceTold) (q : Part) (p : Program) → Works q old new clock → ¬ Rose old.first.faults new.first.faults
    → urgent_first old.fixed old.stand ≡ true → IsOnTime pages turns p old
    → IsOnTime pages (turns + 1) (program_next p old.stand new.stand) new × DoesntFail new.stand

-- So at its end it took two turns more than its pages at most; with its Pick and its Post those are the most.
abbrev pub EndsAreOnTime : Type 0
EndsAreOnTime =
    (turns : ℕ) (p : Program) (d : DeviceTold) → next_in p ≡ None → IsOnTime (pages_of d.fixed p.block p.indices) turns p d
    → turns + 2 ≤ urgent_turns d.fixed p
