-- By what the turns of a drain go down.
use Rattle.std.specs.Prelude.{◌≡◌, ◌⊎◌, ◌<◌, ◌≤◌, ◌+◌, ◌*◌, ◌^◌, ℕ, Bool, true, if◌then◌else◌, length, Option, Some, None, Ok}
use Rattle.block_machine.specs.nv_base.Count.{Rose}
use Rattle.memif.specs.Told.{DeviceTold, Part, Stand, part_at, is_open}
use Rattle.memif.specs.Clock.{Clock}
use Rattle.memif.specs.Calls.{Wish, AcceptsAs, InOrder, Works}
use Rattle.block_machine.specs.Words.{BlockDesc, JobKind}
use Rattle.job_programs.specs.Program.{Program, program_of}
use Rattle.nvm_figures.specs.Left.{ahead, over_unstarted}
use Rattle.nvm_figures.specs.Job.{IsOperation, hand_next}

-- the tries that aren't started
abbrev pub tries_ahead : Program → Bool → ℕ
tries_ahead p busy = over_unstarted (λ i. 1) p busy (ahead p)

-- Of the job in hand first the tries that aren't started and then what is open, whatever faults come; with none in hand
-- what is open of the device's own work.
abbrev pub hand_work : Option Program → DeviceTold → ℕ
hand_work None d = d.left
hand_work (Some p) d = tries_ahead p (is_open d.stand) * 2 ^ 64 + (if is_open d.stand then d.left + 1 else 0)

-- with the entries that still fit before it
abbrev pub drain_work : ℕ → Option Program → DeviceTold → ℕ
drain_work room hand d = room * 2 ^ 80 + hand_work hand d

-- a job on two instances at most, whose retries are a byte
abbrev pub IsSmall : Option Program → Type 0
IsSmall None = Unit {0}
IsSmall (Some p) = (length p.indices ≤ 2) × (p.retries < 2 ^ 8)

-- so is each program of a block, and it stays so
abbrev pub ProgramsAreSmall : Type 0
ProgramsAreSmall =
    (desc : BlockDesc) (defaults : Bool) (block index : ℕ) (kind : JobKind) → desc.reads < 2 ^ 8 → desc.writes < 2 ^ 8
    → IsSmall (Some (program_of desc defaults block index kind))

abbrev pub ProgramsStaySmall : Type 0
ProgramsStaySmall = (hand : Option Program) (old new : Stand) → IsSmall hand → IsSmall (hand_next hand old new)

-- a turn that adds an entry lowers it, whatever else it does
abbrev pub EntriesLower : DeviceTold → Clock → Type 0
EntriesLower new clock =
    (old : DeviceTold) (room less : ℕ) (hand next : Option Program) → InOrder new clock → less < room → IsSmall next
    → drain_work less next new < drain_work room hand old

-- a turn of a job lowers it, whatever faults come; with none in hand the device's own work lowers it, or a fault was counted
abbrev pub WorkLowers : DeviceTold → Clock → Type 0
WorkLowers new clock =
    (old : DeviceTold) (q : Part) (room : ℕ) (hand : Option Program) → Works q old new clock → (hand ≡ None) ⊎ (is_open old.stand ≡ true)
    → (drain_work room (hand_next hand old.stand new.stand) new < drain_work room hand old)
    ⊎ ((hand ≡ None) × Rose (part_at q old).faults (part_at q new).faults)

-- the start of the next operation doesn't raise it
abbrev pub StartsDontAdd : DeviceTold → Clock → Type 0
StartsDontAdd new clock =
    (old : DeviceTold) (w : Wish) (room : ℕ) (p : Program) (index : ℕ) → InOrder new clock → p.failures ≤ p.retries
    → IsOperation p index w.job → AcceptsAs w (Ok tt) old new
    → drain_work room (Some p) new ≤ drain_work room (Some p) old
