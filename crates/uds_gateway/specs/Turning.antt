-- The turns of a job, to its Post.
use Rattle.std.specs.Prelude.{◌≡◌, ℕ, Bool, true, false, IsTrue, List, [], ◌∷◌, ◌++◌, Option}
use Rattle.std.specs.List.{list_all}
use Rattle.nvm_moves.specs.block_machine.Words.{ReqResult, Request, Entry, Post, Off}
use Rattle.nvm_moves.specs.block_machine.State.{State}
use Rattle.nvm_moves.specs.block_machine.Blocks.{asked_block}
use Rattle.nvm_moves.specs.nv_desk.Desk.{DeskState, state_of}
use Rattle.nvm_moves.specs.nvm_laws.declared.turned.Turned.{Turned}
use Rattle.nvm_moves.specs.nvm_laws.declared.turned.Turned.TheVariants.{Idle, Worked, Picked, Posted, Off as PowerOff}
use Rattle.uds_gateway.specs.Jobs.{HasNone, HasOne, is_under_way}

-- one job is pending, of some request
abbrev pub HasJob : State → Type 0
HasJob s = (asked : Request) × HasOne asked s

-- it goes on: entries on the way to its Post
pub record GoesOn (asked : Request) (old new : DeskState) : Type 0 where
  pub way : List Entry
  pub under_way : IsTrue (list_all is_under_way way)
  pub adds : new ≡ record old { entries = old.entries ++ way }
  pub one : HasOne asked (state_of new)

-- it comes to this entry
pub record ComesTo (end : Entry) (old new : DeskState) : Type 0 where
  pub way : List Entry
  pub under_way : IsTrue (list_all is_under_way way)
  pub adds : new ≡ record old { entries = old.entries ++ (way ++ end ∷ []) }

-- its Post, behind which none is pending
pub record ComesToPost (asked : Request) (old new : DeskState) : Type 0 where
  pub result : ReqResult
  pub given : Option (List ℕ)
  pub refused : ℕ
  pub ops : ℕ
  pub comes : ComesTo (Post (asked_block asked) result given refused ops) old new
  pub none : HasNone (state_of new)

-- or the power goes off
pub record ComesToOff (old new : DeskState) : Type 0 where
  pub ops : ℕ
  pub comes : ComesTo (Off ops) old new

-- By what a turn answers. None is idle.
abbrev pub Goes : Request → Turned → DeskState → DeskState → Type 0
Goes asked Idle old new = ⊥
Goes asked Worked old new = GoesOn asked old new
Goes asked Picked old new = GoesOn asked old new
Goes asked Posted old new = ComesToPost asked old new
Goes asked PowerOff old new = ComesToOff old new

-- the job isn't posted yet, and the power is on
abbrev pub is_on_way : Turned → Bool
is_on_way Posted = false
is_on_way PowerOff = false
is_on_way other = true
