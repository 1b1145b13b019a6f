-- What the machine's state keeps through each entry, whatever the device finds.
use Rattle.std.specs.Prelude.{◌≡◌, ℕ, ◌+◌, ◌||◌, true, IsTrue, IfSome, length, None}
use Rattle.block_machine.specs.Words.{Configuration, WriteJob}
use Rattle.block_machine.specs.State.{State, Job, jobs_of}
use Rattle.block_machine.specs.Blocks.{desc_of, job_block, kind_of, keeps_ram, is_synchronized, status_of, is_pending}
use Rattle.block_laws.specs.Consistent.{Each, IsConsistent}

-- the manager keeps the RAM of a block, or the application does
abbrev pub HasRam : Configuration → ℕ → Type 0
HasRam c id = (keeps_ram c id || is_synchronized (desc_of c id).ram) ≡ true

-- The block of a pending job is PENDING. What the job writes has the block's length, and a write that hasn't taken its content
-- yet finds RAM to take it from.
pub record IsPendingJob (c : Configuration) (s : State) (j : Job) : Type 0 where
  pub pending : is_pending (status_of s (job_block j)) ≡ true
  pub content : IfSome j.content (λ x. length x.0 ≡ (desc_of c (job_block j)).length)
  pub ram : kind_of j ≡ WriteJob → j.content ≡ None → HasRam c (job_block j)

pub record IsSound (c : Configuration) (s : State) : Type 0 where
  pub consistent : IsConsistent c s
  -- there are the configured blocks beside id 0
  pub places : IsTrue s.started → length s.blocks ≡ length c.blocks + 1
  pub jobs : Each (IsPendingJob c s) (jobs_of s)
