-- What a turn has to do first: the cases, in order, of what Turns tells.
use Rattle.std.specs.Prelude.{◌≡◌, ◌≤◌, ℕ, Bool, true, false, is_some, IsTrue, Option, Some, None}
use Rattle.nvm_laws.specs.memif.Told.{DeviceTold, ops_of, is_open}
use Rattle.nvm_laws.specs.block_config.Lengths.{lengths_of}
use Rattle.nvm_laws.specs.block_machine.Words.{BlockDesc, JobKind}
use Rattle.nvm_laws.specs.block_machine.Next.{Next, next_of}
use Rattle.nvm_laws.specs.block_machine.Next.{Nothing as NoNext}
use Rattle.nvm_laws.specs.nv_desk.Desk.{DeskState, state_of}
use Rattle.nvm_laws.specs.nv_desk.Picks.{IsInterruption}
use Rattle.nvm_laws.specs.nv_desk.nv_desk_state.Next.{IsNextEntry}
use Rattle.nvm_laws.specs.nv_desk_copies.Picks.{IsFree, IsPickNext}
use Rattle.nvm_laws.specs.nv_desk_copies.Posts.{IsPostNext}
use Rattle.nvm_laws.specs.job_progress.Hand.{HandState, is_finished, began, refused}
use Rattle.nvm_core.specs.declared.choice.Case.{Case}
use Rattle.nvm_core.specs.declared.choice.Case.TheVariants as case

-- THE CASES

-- the power is on, and a job is in hand that is finished or isn't
pub record HasHand (finished : Bool) (desk : DeskState) (hand : Option HandState) : Type 0 where
  pub on : (state_of desk).off ≡ false
  pub held : HandState
  pub is : hand ≡ Some held
  pub end : is_finished held.step ≡ finished

-- the case by what comes next, with which it is: a Pick, a Post without a Pick, or nothing
abbrev pub IsNextCase : Case → Next → Type 0
IsNextCase (case.Pick it) next = IsPickNext next × IsNextEntry it next
IsNextCase (case.Skip it) next = IsPostNext next × IsNextEntry it next
IsNextCase case.Rest next = next ≡ NoNext
IsNextCase other next = ⊥

-- the power is on, no job is in hand, and it is this case
pub record HasNone (it : Case) (desk : DeskState) (hand : Option HandState) : Type 0 where
  pub on : (state_of desk).off ≡ false
  pub is : hand ≡ None
  pub next : IsNextCase it (next_of desk.config (state_of desk))

-- The first that holds: the power is off; the job in hand is finished; the next job may interrupt it; it goes on; or none
-- is in hand, and it goes by what comes next.
abbrev pub IsCase : Case → DeskState → Option HandState → Type 0
IsCase case.Off desk hand = (state_of desk).off ≡ true
IsCase case.Post desk hand = HasHand true desk hand
IsCase case.Interrupt desk hand = HasHand false desk hand × IsInterruption desk
IsCase case.Work desk hand = HasHand false desk hand × ¬ IsInterruption desk
IsCase other desk hand = HasNone other desk hand

-- PICKS

-- a Pick comes next and may come now, at a device that has no job open
pub record IsPickable (desk : DeskState) (d : DeviceTold) : Type 0 where
  pub started : IsTrue (state_of desk).started
  pub on : (state_of desk).off ≡ false
  pub later : (state_of desk).ops ≤ ops_of d
  pub up : d.started ≡ true
  pub numbers : d.fixed.numbers ≡ lengths_of desk.config
  pub closed : is_open d.stand ≡ false
  pub picks : IsPickNext (next_of desk.config (state_of desk))
  pub free : IsFree desk.config (state_of desk) (next_of desk.config (state_of desk))

-- the hand of a job on a block of this description, with a content or without one
abbrev pub begun_by : (without : Bool) → BlockDesc → ℕ → ℕ → JobKind → HandState
begun_by true d block index kind = refused d (is_some d.defaults) block index kind
begun_by false d block index kind = began d (is_some d.defaults) block index kind
