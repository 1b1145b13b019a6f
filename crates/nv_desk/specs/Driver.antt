-- What the driver's entries say of the job in hand. What the entry of a start-up asks for says `Desk::start_up` (src/start.rt).
use Rattle.std.specs.Prelude.{◌≡◌, ℕ, List, length, unwrap_or, IsSome, IfSome, Option}
use Rattle.std.specs.Option.{option_and_then, option_map_or}
use Rattle.block_machine.specs.Words.{Mark, Erased, Entry}
use Rattle.block_machine.specs.State.{State}
use Rattle.block_machine.specs.Blocks.{desc_of, job_block, mark_of}
use Rattle.block_machine.specs.Legal.{IsAllowed}
use Rattle.nv_desk.specs.Desk.{DeskState, state_of}

-- an entry may come behind those of the desk
pub record MayAdd (d : DeskState) (e : Entry) : Type 0 where
  pub allowed : IsAllowed d.config d.cap (state_of d) e

-- THE JOB IN HAND

-- the mark that it writes
abbrev pub mark_now : State → Mark
mark_now s = unwrap_or (option_and_then mark_of s.hand) Erased

-- its block
abbrev pub block_now : State → ℕ
block_now s = option_map_or job_block s.hand 0

-- a job is in hand, and a content that it gives, if it gives one, has its block's length
pub record MayEnd (d : DeskState) (given : Option (List ℕ)) : Type 0 where
  pub hand : IsSome (state_of d).hand
  pub whole : IfSome given (λ x. length x ≡ (desc_of d.config (block_now (state_of d))).length)
