-- The halves of a turn.
use Rattle.std.specs.Prelude.{◌≡◌, ◌⊎◌, ℕ, true, false, List, [], ◌∷◌, ◌++◌, Some, None}
use Rattle.memif.specs.Told.{DeviceTold, nothing_open, ops_of, is_off}
use Rattle.block_machine.specs.Words.{Entry, Taken}
use Rattle.block_machine.specs.State.{Job}
use Rattle.block_machine.specs.Blocks.{job_block, names_ram}
use Rattle.block_machine.specs.Results.{Answer}
use Rattle.block_machine.specs.Next.{next_of}
use Rattle.block_machine.specs.Next.{Nothing as NoNext}
use Rattle.ram_blocks.specs.Told.{Told}
use Rattle.nv_desk_copies.specs.nv_desk.Desk.{DeskState, state_of}
use Rattle.nv_desk_copies.specs.Picks.{IsPicked}
use Rattle.nv_desk_copies.specs.Posts.{IsPosted, IsPostedNext}
use Rattle.nvm_laws.specs.declared.turned.Turned.TheVariants as turned
use Rattle.nvm_laws.specs.declared.turned.Act.{Act}
use Rattle.nvm_laws.specs.declared.turned.Act.TheVariants.{Ended, Device}

-- an entry more
abbrev pub Adds : Entry → DeskState → DeskState → Type 0
Adds e old new = new ≡ record old { entries = old.entries ++ e ∷ [] }

-- a Pick more of what comes next, which the machine allows, and of what it took this holds
abbrev pub AddsPick : (Holds : ℕ → Taken → Type 0) → ℕ → DeskState → DeskState → Type 0
AddsPick Holds ops old new = (block : ℕ) × IsPicked (Holds block) block ops old new

-- the Post of the job in hand, which the machine allows where what its program saw fits the settled marks
pub record PostsHand (Fits : Type 0) (ops : ℕ) (old new : DeskState) (before after : List Told) : Type 0 where
  pub job : Job
  pub hand : (state_of old).hand ≡ Some job
  pub ended : Answer
  pub is : IsPosted Fits (job_block job) (names_ram job.request) ended ops old new before after

-- a Post more: that of the job in hand, or one that comes next without a Pick
abbrev pub AddsPost : (Fits : Type 0) → ℕ → DeskState → DeskState → List Told → List Told → Type 0
AddsPost Fits ops old new before after =
    PostsHand Fits ops old new before after ⊎ (((state_of old).hand ≡ None) × IsPostedNext (next_of old.config (state_of old)) ops old new before after)

-- no job is in hand and nothing comes next
pub record IsAtRest (desk : DeskState) (d : DeviceTold) : Type 0 where
  pub hand : (state_of desk).hand ≡ None
  pub next : next_of desk.config (state_of desk) ≡ NoNext
  pub device : nothing_open d ≡ true

-- nothing is added, and nothing is told otherwise of the application's copies
abbrev pub AddsNothing : DeskState → DeskState → List Told → List Told → Type 0
AddsNothing old new before after = (new ≡ old) × (after ≡ before)

-- What the first half came to, at a device that then tells this: the entry that it added, or that there is none and why. A
-- job in hand that goes on always has an operation open, so that the device's turn comes next.
abbrev pub IsHalf : Act → (Holds : ℕ → Taken → Type 0) → (Fits : Type 0) → DeskState → DeskState → List Told → List Told → DeviceTold → Type 0
IsHalf (Ended turned.Off) Holds Fits old new before after d = AddsNothing old new before after × (is_off d ≡ true)
IsHalf (Ended turned.Picked) Holds Fits old new before after d = AddsPick Holds (ops_of d) old new
IsHalf (Ended turned.Posted) Holds Fits old new before after d = AddsPost Fits (ops_of d) old new before after
IsHalf (Ended turned.Idle) Holds Fits old new before after d = AddsNothing old new before after × IsAtRest old d
IsHalf (Ended turned.Worked) Holds Fits old new before after d = ⊥
IsHalf Device Holds Fits old new before after d =
    AddsNothing old new before after × (nothing_open d ≡ false) × ((state_of old).off ≡ false) × ((state_of old).hand ≡ None → next_of old.config (state_of old) ≡ NoNext)
