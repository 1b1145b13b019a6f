-- When a member of a request on all blocks is picked, or posted without a Pick.
use Rattle.std.specs.Prelude.{◌≡◌, ℕ, List, length, IfSome, Option, None}
use Rattle.block_machine.specs.Words.{ReqResult, Pick, Post}
use Rattle.block_machine.specs.State.{Sweep}
use Rattle.block_machine.specs.Blocks.{desc_of}
use Rattle.block_machine.specs.Sweeps.{member_kind}
use Rattle.block_machine.specs.Next.{PickMember, PostMember, next_of}
use Rattle.block_machine.specs.Legal.{IsAllowed}
use Rattle.job_pending.specs.Take.{Took, taken_with}
use Rattle.nv_desk.specs.Desk.{DeskState, state_of}

-- this member is what the machine turns to next, and it may be picked with this
pub record MayPickMember (d : DeskState) (id : ℕ) (took : Took) (ops : ℕ) : Type 0 where
  pub sweep : Sweep
  pub is : next_of d.config (state_of d) ≡ PickMember sweep id
  pub allowed : IsAllowed d.config d.cap (state_of d) (Pick id (member_kind sweep.writes) (taken_with None took) ops)

-- this member is what the machine turns to next, and it may be posted with this; a content that it gives has its block's length
pub record MayPostMember (d : DeskState) (id : ℕ) (answer : ReqResult) (given : Option (List ℕ)) (refused ops : ℕ) : Type 0 where
  pub sweep : Sweep
  pub is : next_of d.config (state_of d) ≡ PostMember sweep id
  pub allowed : IsAllowed d.config d.cap (state_of d) (Post id answer given refused ops)
  pub whole : IfSome given (λ x. length x ≡ (desc_of d.config id).length)
