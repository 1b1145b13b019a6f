-- The turns that are left of the stack.
use Rattle.std.specs.Prelude.{ℕ, ◌+◌, ◌-◌, ◌*◌, Bool, true, false, if◌then◌else◌, List, [], ◌∷◌, length, drop, Option, Some, None}
use Rattle.std.specs.List.{list_any}
use Rattle.block_machine.specs.nv_base.Marks.{number_of}
use Rattle.memif.specs.Told.{DeviceTold, Fixed, figures_at, most_of, is_open}
use Rattle.block_machine.specs.Words.{JobKind}
use Rattle.job_programs.specs.Program.{Program, operation, settles}

-- the instances whose operations aren't done: the one that a program is at, and those behind it
abbrev pub ahead : Program → List ℕ
ahead p = if list_any (settles p.kind) p.done then [] else drop (length p.done) p.indices

-- Of the instance that it is at, the tries that aren't started. One of those that it has is, where its job is open.
abbrev pub tries_at : Program → Bool → ℕ
tries_at p true = p.retries - p.failures
tries_at p false = p.retries + 1 - p.failures

-- the sum over each try on these instances, of what a try on an instance counts
abbrev pub over_tries : (ℕ → ℕ) → ℕ → List ℕ → ℕ
over_tries count retries [] = 0
over_tries count retries (i ∷ is) = (retries + 1) * count i + over_tries count retries is

-- and over those that aren't started
abbrev pub over_unstarted : (ℕ → ℕ) → Program → Bool → List ℕ → ℕ
over_unstarted count p busy [] = 0
over_unstarted count p busy (i ∷ is) = tries_at p busy * count i + over_tries count p.retries is

-- the most turns of a job's operation on an instance of a block
abbrev pub most_at : Fixed → ℕ → JobKind → ℕ → ℕ
most_at f block kind index = most_of (figures_at f (number_of (record { block = block; index = index }))) (operation kind)

-- of the job in hand, if there is one: the most turns of each try that isn't started, and one for its Post
abbrev pub left_of_hand : Fixed → Option Program → Bool → ℕ
left_of_hand f None busy = 0
left_of_hand f (Some p) busy = over_unstarted (most_at f p.block p.kind) p busy (ahead p) + 1

-- what is open at the device, and what isn't started of the job in hand
abbrev pub stack_left : Option Program → DeviceTold → ℕ
stack_left hand d = d.left + left_of_hand d.fixed hand (is_open d.stand)

-- at most so many are left of a job at its Pick: the device's own work, all its tries, and its Post
abbrev pub most_turns : Fixed → Program → ℕ
most_turns f p = f.own + over_tries (most_at f p.block p.kind) p.retries p.indices + 1
