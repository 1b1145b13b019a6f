-- How far the turns of a drain have come.
use Rattle.std.specs.Prelude.{◌<◌, ◌≤◌, ◌+◌, ℕ, Option, Some, None}
use Rattle.nvm_laws.specs.memif.Told.{DeviceTold}
use Rattle.nvm_laws.specs.job_programs.Program.{Program}
use Rattle.nvm_laws.specs.nvm_figures.Left.{stack_left, most_turns}
use Rattle.nvm_laws.specs.declared.turned.Turned.TheVariants as turned
use Rattle.nvm_laws.specs.declared.turned.Act.{Act}
use Rattle.nvm_laws.specs.declared.turned.Act.TheVariants.{Ended, Device}

-- WORK
-- An entry lowers the work of the stack; where the device's turn comes next, nothing was added to it.
abbrev pub HalfLowers : Act → (old new : ℕ) → Type 0
HalfLowers (Ended turned.Picked) old new = new < old
HalfLowers (Ended turned.Posted) old new = new < old
HalfLowers (Ended other) old new = Unit {0}
HalfLowers Device old new = new ≤ old

-- TURNS
-- at most the most turns of the job in hand are left, if there is one
abbrev pub IsWithinMost : Option Program → DeviceTold → Type 0
IsWithinMost None d = Unit {0}
IsWithinMost (Some p) d = stack_left (Some p) d ≤ most_turns d.fixed p

-- a job in hand has its Post left
abbrev pub posts_left : Option Program → ℕ
posts_left None = 0
posts_left (Some p) = 1

-- The turns that are left: a Pick sets them to at most the most turns of its job, a Post of the job in hand lowers them, and
-- nothing else raises them.
abbrev pub HalfLeft : Act → Option Program → DeviceTold → Option Program → DeviceTold → Type 0
HalfLeft (Ended turned.Picked) hand old next new = IsWithinMost next new
HalfLeft (Ended turned.Posted) hand old next new = stack_left next new + posts_left hand ≤ stack_left hand old
HalfLeft act hand old next new = stack_left next new ≤ stack_left hand old
