-- What holds of a request that is accepted.
use Rattle.std.specs.Prelude.{◌≡◌, ℕ, ◌+◌, ◌==◌, ◌||◌, nat_lt, true, false, length, IfSome}
use Rattle.block_machine.specs.Words.{Configuration, Request}
use Rattle.block_machine.specs.State.{State}
use Rattle.block_machine.specs.Blocks.{desc_of, status_of, is_immediate, is_pending, asked_block, asked_content, names_ram}
use Rattle.block_machine.specs.Reply.{needed, fits, is_queue_full}
use Rattle.nv_desk.specs.Sound.{HasRam}

-- one that makes a job on a block
pub record IsJobAccepted (c : Configuration) (cap : ℕ) (s : State) (r : Request) : Type 0 where
  pub known : ((asked_block r == 0) || nat_lt (length c.blocks) (asked_block r)) ≡ false
  pub content : IfSome (asked_content r) (λ x. length x.0 ≡ (desc_of c (asked_block r)).length)
  pub ram : names_ram r ≡ true → HasRam c (asked_block r)
  pub alone : is_pending (status_of s 0) ≡ false
  pub free : is_pending (status_of s (asked_block r)) ≡ false
  -- fewer jobs than its queue takes were accepted and not yet picked
  pub queue : is_queue_full c s.waiting (is_immediate c r) ≡ false
  pub room : fits c cap s (1 + needed c r) ≡ true

-- one on all blocks
pub record IsSweepAccepted (c : Configuration) (cap : ℕ) (s : State) (r : Request) : Type 0 where
  pub alone : is_pending (status_of s 0) ≡ false
  pub room : fits c cap s (1 + needed c r) ≡ true
