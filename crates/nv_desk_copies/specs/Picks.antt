-- What the front does next.
use Rattle.std.specs.Prelude.{◌≡◌, ℕ, List, [], ◌∷◌, ◌++◌, Some}
use Rattle.block_machine.specs.Words.{Configuration, Pick, JobKind, Taken}
use Rattle.block_machine.specs.State.{State, Job, Sweep}
use Rattle.block_machine.specs.Next.{Next, PickJob, BeginSweep, PickMember, next_in, next_of}
use Rattle.block_machine.specs.Legal.{IsDriving, HandIsFree, IsAllowed}
use Rattle.ram_blocks.specs.Told.{Told}
use Rattle.nv_desk.specs.Desk.{DeskState, state_of}
use Rattle.nv_desk_copies.specs.Front.{OnlyRefusals}

-- where a job waits, none is in hand, or that one may be interrupted
abbrev pub IsFree : Configuration → State → Next → Type 0
IsFree c s (PickJob j) = HandIsFree c s.hand j
IsFree c s next = Unit {0}

-- what comes next is a Pick
abbrev pub IsPickNext : Next → Type 0
IsPickNext (PickJob j) = Unit {0}
IsPickNext (BeginSweep sw) = Unit {0}
IsPickNext (PickMember sw id) = Unit {0}
IsPickNext next = ⊥

-- the driver works, and what comes next is a Pick that may come now
pub record MayPickNow (d : DeskState) (ops : ℕ) : Type 0 where
  pub driving : IsDriving (state_of d) ops
  pub picks : IsPickNext (next_of d.config (state_of d))
  pub free : IsFree d.config (state_of d) (next_of d.config (state_of d))

-- one Pick more, which the machine allows, and of what it took this holds
pub record IsPicked (Holds : Taken → Type 0) (block ops : ℕ) (old new : DeskState) : Type 0 where
  pub kind : JobKind
  pub taken : Taken
  pub adds : new ≡ record old { entries = old.entries ++ Pick block kind taken ops ∷ [] }
  pub allowed : IsAllowed old.config old.cap (state_of old) (Pick block kind taken ops)
  pub copied : Holds taken

-- the Pick of what comes next, of a block of which alone copies were refused, and of what it took this holds
pub record PicksNext (Holds : ℕ → Taken → Type 0) (ops : ℕ) (old new : DeskState) (before after : List Told) : Type 0 where
  pub block : ℕ
  pub is : IsPicked (Holds block) block ops old new
  pub counts : OnlyRefusals block before after

-- THE PICK OF A JOB, AND OF A MEMBER

-- a job waits, and it may come in hand now
pub record MayPickJob (d : DeskState) (ops : ℕ) : Type 0 where
  pub driving : IsDriving (state_of d) ops
  pub job : Job
  pub is : next_in d.config (state_of d).waiting ≡ Some job
  pub free : HandIsFree d.config (state_of d).hand job

-- this member comes in hand next
pub record IsAtPick (d : DeskState) (block ops : ℕ) : Type 0 where
  pub driving : IsDriving (state_of d) ops
  pub sweep : Sweep
  pub is : next_of d.config (state_of d) ≡ PickMember sweep block
