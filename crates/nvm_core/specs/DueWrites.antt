-- An urgent write of a block that is due, and what a turn does to it.
use Rattle.std.specs.Prelude.{◌≡◌, ◌≢◌, ◌⊎◌, ◌<◌, ◌+◌, ◌-◌, ℕ, Bool, true, false, List, if◌then◌else◌, Option, Some}
use Rattle.nvm_laws.specs.memif.Told.{Fixed, First, figures_at}
use Rattle.nvm_laws.specs.block_machine.Words.{ReqResult, Entry, Post, Configuration}
use Rattle.nvm_laws.specs.block_machine.State.{State}
use Rattle.nvm_laws.specs.block_machine.Blocks.{indices_of}
use Rattle.nvm_laws.specs.nv_desk.Desk.{state_of}
use Rattle.nvm_laws.specs.job_progress.Hand.{HandState}
use Rattle.nvm_laws.specs.nvm_figures.Urgent.{pages_of}
use Rattle.nvm_laws.specs.Due.{StackNow, IsDue, post_first}
use Rattle.nvm_core.specs.JobNumbers.{IsOfBlock}

-- the pages of the records of a block, at its data index
abbrev pub pages_in : Fixed → Configuration → State → ℕ → ℕ
pages_in f c s id = pages_of f id (indices_of c s id)

-- all numbers are of the first part
abbrev pub AreFirst : Fixed → Type 0
AreFirst f = (n : ℕ) → (figures_at f n).part ≡ First

-- the turn that isn't counted: that to the Post of a finished job, where one is free
abbrev pub free_turns : Bool → Option HandState → ℕ
free_turns one hand = if one then post_first hand else 0

-- an urgent write of a block is due within so many turns, beside that one
pub record IsDueFor (id : ℕ) (one : Bool) (turns : ℕ) (now : StackNow) : Type 0 where
  pub number : ℕ
  pub due : IsDue number (turns + free_turns one now.hand) now
  pub block : IsOfBlock number id (state_of now.desk)
  pub on : (state_of now.desk).off ≡ false

-- A TURN
-- this entry is a Post of a job of this block
pub record IsPostOf (block : ℕ) (e : Option Entry) : Type 0 where
  pub result : ReqResult
  pub given : Option (List ℕ)
  pub refused : ℕ
  pub ops : ℕ
  pub is : e ≡ Some (Post block result given refused ops)

-- it is posted; another job is posted, where one is free; or it is due a turn sooner
abbrev pub IsServedFor : (id : ℕ) → (one : Bool) → (turns : ℕ) → Option Entry → StackNow → Type 0
IsServedFor id one turns e now =
    IsPostOf id e
    ⊎ (((one ≡ true) × ((other : ℕ) × (other ≢ id) × IsPostOf other e) × IsDueFor id false turns now)
    ⊎ ((1 < turns) × IsDueFor id one (turns - 1) now))
