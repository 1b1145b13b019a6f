-- The jobs by block.
use Rattle.std.specs.Prelude.{◌≡◌, ◌≢◌, ℕ, ◌+◌, ◌-◌, ◌<◌, ◌==◌, List, find, length, get_or, slice_get, if◌then◌else◌, Option, Some, None}
use Rattle.block_machine.specs.State.{Job}
use Rattle.block_machine.specs.Blocks.{job_block}

-- the jobs that are kept, one of a block at most: how many ids there are for these, from 0 on, and how many jobs have room at once
pub record SlotsState : Type 0 where
  pub jobs : List Job
  pub places : ℕ
  pub room : ℕ

-- the job on a block, if there is one
abbrev pub job_on : List Job → ℕ → Option Job
job_on jobs id = find (λ j. job_block j == id) jobs

-- the job that is kept for a block
abbrev pub slot : SlotsState → ℕ → Option Job
slot s id = job_on s.jobs id

-- each stands where its block says
abbrev pub AreIndexed : List ℕ → List Job → Type 0
AreIndexed at jobs = (i : ℕ) (j : Job) → slice_get jobs i ≡ Some j → slice_get at (job_block j) ≡ Some i

-- the job of a block was taken out
pub record IsLeft (block : ℕ) (old new : SlotsState) : Type 0 where
  pub places : new.places ≡ old.places
  pub room : new.room ≡ old.room
  pub slots : (id : ℕ) → slot new id ≡ (if block == id then None else slot old id)
  pub count : (j : Job) → slot old block ≡ Some j → length new.jobs + 1 ≡ length old.jobs

-- the last of these stands where one was taken out
pub record IsSwapped (place : ℕ) (old new : List Job) : Type 0 where
  pub count : length new + 1 ≡ length old
  pub last : (d : Job) → place + 1 < length old → get_or new place d ≡ get_or old (length old - 1) d
  pub others : (i : ℕ) (d : Job) → i ≢ place → i + 1 < length old → get_or new i d ≡ get_or old i d
