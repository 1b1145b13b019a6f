-- What the manager turns to next: which of the pending jobs comes first says Order.
use Rattle.std.specs.Prelude.{ℕ, List, [], ◌∷◌, fold, if◌then◌else◌, Option, Some, None}
use Rattle.block_machine.specs.Words.{Configuration}
use Rattle.block_machine.specs.State.{State, Job, Sweep}
use Rattle.block_machine.specs.Blocks.{desc_of, block_at, rank_of}
use Rattle.block_machine.specs.Order.{goes_before}
use Rattle.block_machine.specs.Sweeps.{is_picked}

abbrev pub first_of_two : Configuration → Option Job → Job → Option Job
first_of_two c None j = Some j
first_of_two c (Some best) j = if goes_before (rank_of c j) (rank_of c best) then Some j else Some best

-- of these jobs, the one that goes before all others
abbrev pub next_in : Configuration → List Job → Option Job
next_in c jobs = fold (first_of_two c) None jobs

pub data Next : Type 0 where
  -- there is nothing to turn to but the job in hand, if there is one
  Nothing : Next
  -- a job on one block is picked
  PickJob : (j : Job) → Next
  -- a request on all blocks is picked, and its sweep begins
  BeginSweep : (sw : Sweep) → Next
  -- a member of the sweep is picked
  PickMember : (sw : Sweep) → (id : ℕ) → Next
  -- a member of the sweep is posted without a Pick
  PostMember : (sw : Sweep) → (id : ℕ) → Next
  -- the sweep ends with the Post of id 0
  EndSweep : (sw : Sweep) → Next

abbrev pub next_member : Configuration → State → Sweep → List ℕ → Next
next_member c s sw [] = EndSweep sw
next_member c s sw (id ∷ ids) = if is_picked (desc_of c id) (block_at s id) sw id then PickMember sw id else PostMember sw id

-- a canceled sweep takes no further member
abbrev pub next_in_sweep : Configuration → State → Sweep → Next
next_in_sweep c s sw = if sw.under_way then next_member c s sw (if sw.canceled then [] else sw.left) else BeginSweep sw

-- A sweep begins and goes on only where no job on one block is pending.
abbrev pub next_by : Configuration → State → Option Job → Option Job → Option Sweep → Next
next_by c s (Some j) hand sweep = PickJob j
next_by c s None None (Some sw) = next_in_sweep c s sw
next_by c s None hand sweep = Nothing

abbrev pub next_of : Configuration → State → Next
next_of c s = next_by c s (next_in c s.waiting) s.hand s.sweep
