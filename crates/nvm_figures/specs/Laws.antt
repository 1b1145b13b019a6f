-- What the turns that are left do, from call to call.
use Rattle.std.specs.Prelude.{◌≡◌, ◌⊎◌, ◌<◌, ◌≤◌, ◌+◌, ℕ, Bool, false, [], Option, Some, None, Ok}
use Rattle.block_machine.specs.nv_base.Count.{Rose}
use Rattle.memif.specs.Told.{DeviceTold, Part, part_at, is_open, IfElse}
use Rattle.memif.specs.Clock.{Clock}
use Rattle.memif.specs.Calls.{Wish, AcceptsAs, IsCanceled, InOrder, Works}
use Rattle.block_machine.specs.Words.{BlockDesc, JobKind}
use Rattle.job_programs.specs.Program.{Program, next_in, program_of}
use Rattle.nvm_figures.specs.Left.{stack_left, most_turns}
use Rattle.nvm_figures.specs.Job.{IsOperation, hand_next}

-- A turn of the device lowers what is left, or a fault was counted: whether its job goes on, ends well and the program goes
-- on to the next instance or is over, fails and is tried again or not, or there is none.
abbrev pub TurnsLower : DeviceTold → Clock → Type 0
TurnsLower new clock =
    (old : DeviceTold) (q : Part) (hand : Option Program) → Works q old new clock
    → (stack_left (hand_next hand old.stand new.stand) new < stack_left hand old) ⊎ Rose (part_at q old).faults (part_at q new).faults

-- the start of the next operation doesn't raise it
abbrev pub StartsDontRaise : Type 0
StartsDontRaise =
    (old new : DeviceTold) (w : Wish) (p : Program) (index : ℕ) → p.failures ≤ p.retries → IsOperation p index w.job
    → AcceptsAs w (Ok tt) old new → stack_left (Some p) new ≤ stack_left (Some p) old

-- a cancel doesn't raise the device's part, and keeps ready what is
abbrev pub CancelsDontRaise : Type 0
CancelsDontRaise =
    (old new : DeviceTold) → IfElse (is_open old.stand) (IsCanceled old new) (new ≡ old)
    → (stack_left None new ≤ stack_left None old) × (old.ready ≤ new.ready)

-- a Post lowers it by one
abbrev pub PostsLower : Type 0
PostsLower = (d : DeviceTold) (p : Program) → next_in p ≡ None → stack_left (Some p) d ≡ stack_left None d + 1

-- A Pick sets it to at most the sum of the most turns of the job's tries and of the device's own work, and one.
abbrev pub PicksAreBounded : DeviceTold → Clock → Type 0
PicksAreBounded d clock =
    (p : Program) → InOrder d clock → is_open d.stand ≡ false → p.done ≡ [] → p.failures ≡ 0
    → stack_left (Some p) d ≤ most_turns d.fixed p

-- so it is a number of the configuration, the job and the device's figures
abbrev pub JobsAreBounded : DeviceTold → Clock → Type 0
JobsAreBounded d clock =
    (desc : BlockDesc) (defaults : Bool) (block index : ℕ) (kind : JobKind) → InOrder d clock → is_open d.stand ≡ false
    → let p = program_of desc defaults block index kind in stack_left (Some p) d ≤ most_turns d.fixed p
