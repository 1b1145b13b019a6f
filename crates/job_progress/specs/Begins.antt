-- How a job comes in hand.
use Rattle.std.specs.Prelude.{◌≡◌, ◌⊎◌, ℕ, Bool, true, false, [], is_some, Some, None}
use Rattle.memif.specs.Told.{DeviceTold, is_open}
use Rattle.block_machine.specs.Words.{JobKind, Taken, Pick, Configuration}
use Rattle.block_machine.specs.State.{State, Job}
use Rattle.block_machine.specs.Blocks.{desc_of, block_at, job_block, kind_of}
use Rattle.block_machine.specs.Results.{took_none}
use Rattle.block_machine.specs.Steps.{step}
use Rattle.block_machine.specs.Legal.{IsAllowed}
use Rattle.job_progress.specs.Hand.{HandState, began, refused}
use Rattle.job_progress.specs.JobInHand.{HasContent, IsPaired}

-- the hand of a job that was picked, with a content or without one
abbrev pub hand_by : Bool → Configuration → State → Job → HandState
hand_by true c s j = refused (desc_of c (job_block j)) (is_some (desc_of c (job_block j)).defaults) (job_block j) (block_at s (job_block j)).index (kind_of j)
hand_by false c s j = began (desc_of c (job_block j)) (is_some (desc_of c (job_block j)).defaults) (job_block j) (block_at s (job_block j)).index (kind_of j)

abbrev pub hand_for : Configuration → State → Job → HandState
hand_for c s j = hand_by (took_none j.taken) c s j

-- a job that was just picked has written nothing
pub record IsPicked (j : Job) : Type 0 where
  pub nothing : j.written ≡ []
  pub content : HasContent j

-- a Pick takes a job in hand, or leaves none there, as that of a request on all blocks does
abbrev pub PicksTakeJobs : Type 0
PicksTakeJobs =
    (c : Configuration) (cap : ℕ) (s : State) (block ops : ℕ) (kind : JobKind) (t : Taken) → IsAllowed c cap s (Pick block kind t ops)
    → ((step c s (Pick block kind t ops)).hand ≡ None) ⊎ ((j : Job) × ((step c s (Pick block kind t ops)).hand ≡ Some j) × IsPicked j)

-- with its hand it is paired with a device that has no job open
abbrev pub HandsBegin : Type 0
HandsBegin =
    (c : Configuration) (s : State) (j : Job) (d : DeviceTold) → s.hand ≡ Some j → IsPicked j → is_open d.stand ≡ false
    → IsPaired c s (Some (hand_for c s j)) d
