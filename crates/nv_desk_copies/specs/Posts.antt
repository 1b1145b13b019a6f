-- What a job ends with, and its Post.
use Rattle.std.specs.Prelude.{◌≡◌, ◌⊎◌, ℕ, ◌+◌, ◌-◌, ◌&&◌, not, Bool, true, false, List, [], ◌∷◌, ◌++◌, length, is_some, slice_get, slice_set, option_map, if◌then◌else◌, Option, Some, None}
use Rattle.std.specs.List.{Contains}
use Rattle.block_machine.specs.nv_base.Count.{WereCounted}
use Rattle.block_machine.specs.Words.{ReqResult, NotOk, JobKind, ReadJob, GivenFrom, FromNowhere, FromDevice, FromDefaults, FromRom, BlockDesc, Configuration, Post}
use Rattle.block_machine.specs.State.{State, Job, Sweep}
use Rattle.block_machine.specs.Blocks.{desc_of, block_at, is_synchronized, job_block, kind_of, names_ram}
use Rattle.block_machine.specs.Sweeps.{sweep_result}
use Rattle.block_machine.specs.ResultTable.{table}
use Rattle.block_machine.specs.Results.{Answer, Own, own_of, outcomes_of, device_content, took_none, checks_id, checked_id, result_of, unpicked_result, open_sets}
use Rattle.block_machine.specs.Next.{Next, PostMember, EndSweep, next_of}
use Rattle.block_machine.specs.Legal.{IsDriving, IsAllowed}
use Rattle.ram_blocks.specs.Told.{Told, told_at, refusals_of, to_refuse_of}
use Rattle.ram_blocks.specs.Tries.{Spends, OthersStay}
use Rattle.nv_desk.specs.Desk.{DeskState, state_of}
use Rattle.nv_desk_copies.specs.Front.{Numbers, given_if}

-- WHAT A JOB ENDS WITH

-- what comes from a source: of the device this content, or what the block's description has
abbrev pub given_from : BlockDesc → (index : ℕ) → (content : List ℕ) → GivenFrom → Option (List ℕ)
given_from d index content FromNowhere = None
given_from d index content FromDevice = Some content
given_from d index content FromDefaults = d.defaults
given_from d index content FromRom = slice_get d.rom (index - d.nv)

-- Where its last Pick got no content a job ends with 1. Block 1 is checked for the configuration id.
abbrev pub answer_by : Own → Job → Answer → Answer
answer_by o j a = if took_none j.taken then (NotOk, None) else (if checks_id j (kind_of j) then checked_id o.desc.defaults a else a)

-- what the job in hand ends with, where its program ended with this result and source
abbrev pub answer_of : Configuration → State → Job → ReqResult → GivenFrom → List ℕ → Answer
answer_of c s j r source content =
    let id = job_block j in answer_by (own_of c s id) j (r, given_from (desc_of c id) (block_at s id).index content source)

-- The program of a job ended so, where its operations failed at every try on these instances. They are one of the failed
-- sets that the history leaves open, and what the device gave is the machine's.
pub record IsProgramEnd (c : Configuration) (s : State) (j : Job) (r : ReqResult) (source : GivenFrom) (content : List ℕ) (failed : List ℕ) : Type 0 where
  pub open_set : Contains (open_sets (own_of c s (job_block j)) j (kind_of j)) failed
  pub ends : took_none j.taken ≡ false
      → (r, source) ≡ table (is_some (desc_of c (job_block j)).defaults) (kind_of j) (outcomes_of (kind_of j) (own_of c s (job_block j)).marks failed)
  pub gives : took_none j.taken ≡ false → source ≡ FromDevice → Some content ≡ device_content (own_of c s (job_block j)).marks failed

-- what the job in hand ends with is the machine's, where its program ended so
abbrev pub EndsAreTheMachines : Type 0
EndsAreTheMachines =
    (c : Configuration) (s : State) (j : Job) (r : ReqResult) (source : GivenFrom) (content failed : List ℕ)
    → IsProgramEnd c s j r source content failed → answer_of c s j r source content ≡ result_of (own_of c s (job_block j)) j failed

-- a result, and the content that is given with it, if one is
abbrev pub answer_in : ReqResult → (gives : Bool) → List ℕ → Answer
answer_in r gives bytes = (r, given_if gives bytes)

-- THE POST

-- a content is given to synchronized RAM
abbrev pub goes_over : BlockDesc → (ram : Bool) → Option (List ℕ) → Bool
goes_over d ram given = (ram && is_synchronized d.ram) && is_some given

-- It is posted as it ended, and what goes to synchronized RAM was handed over; or each copy of that was refused, which is where
-- as many were to be, and it is posted with 1.
abbrev pub IsHandedOver : (goes : Bool) → (ended posted : Answer) → (refused tries block : ℕ) → (old new : List Told) → Type 0
IsHandedOver false ended posted refused tries block old new = (posted ≡ ended) × (refused ≡ 0) × (new ≡ old)
IsHandedOver true ended posted refused tries block old new =
    ((posted ≡ ended) × (refused ≡ 0) × (option_map (λ s. s.last) (told_at new block) ≡ ended.1) × Spends false tries (to_refuse_of old block) (to_refuse_of new block))
    ⊎ ((posted ≡ (NotOk, None)) × (refused ≡ tries) × WereCounted tries (refusals_of old block) (refusals_of new block) × Spends true tries (to_refuse_of old block) (to_refuse_of new block))

-- One Post more, of what ended so on this block; of another block nothing is told otherwise. The machine allows it under a
-- premise.
pub record IsPosted (Premise : Type 0) (block : ℕ) (ram : Bool) (ended : Answer) (ops : ℕ) (old new : DeskState) (before after : List Told) : Type 0 where
  pub result : ReqResult
  pub given : Option (List ℕ)
  pub refused : ℕ
  pub adds : new ≡ record old { entries = old.entries ++ Post block result given refused ops ∷ [] }
  pub over : IsHandedOver (goes_over (desc_of old.config block) ram ended.1) ended (result, given) refused ((desc_of old.config block).repeats + 1) block before after
  pub others : OthersStay block before after
  pub allowed : Premise → IsAllowed old.config old.cap (state_of old) (Post block result given refused ops)

-- THE JOB IN HAND

-- it is there, and what the device gave has its block's length
pub record MayPostNow (d : DeskState) (source : GivenFrom) (content : List ℕ) : Type 0 where
  pub job : Job
  pub is : (state_of d).hand ≡ Some job
  pub whole : source ≡ FromDevice → length content ≡ (desc_of d.config (job_block job)).length

-- the driver works, and its program ended so
pub record IsEndOf (d : DeskState) (j : Job) (r : ReqResult) (source : GivenFrom) (content : List ℕ) (ops : ℕ) : Type 0 where
  pub driving : IsDriving (state_of d) ops
  pub failed : List ℕ
  pub ended : IsProgramEnd d.config (state_of d) j r source content failed

abbrev pub is_read : JobKind → Bool
is_read ReadJob = true
is_read kind = false

-- a read gave a content to the caller's own buffer
abbrev pub reads_own : Job → Option (List ℕ) → Bool
reads_own j given = not (names_ram j.request) && (is_read (kind_of j) && is_some given)

-- its block, where it did
abbrev pub block_read : Job → Option (List ℕ) → Option ℕ
block_read j given = if reads_own j given then Some (job_block j) else None

-- then it can be taken: it is that of the Post with this number
abbrev pub noted : Job → Option (List ℕ) → ℕ → Numbers → Numbers
noted j given n unread = if reads_own j given then slice_set unread (job_block j) (Some n) else unread

-- WITHOUT A PICK

-- a member that isn't picked is posted next, or id 0
abbrev pub IsPostNext : Next → Type 0
IsPostNext (PostMember sw id) = Unit {0}
IsPostNext (EndSweep sw) = Unit {0}
IsPostNext next = ⊥

pub record MayPostSkipped (d : DeskState) (ops : ℕ) : Type 0 where
  pub driving : IsDriving (state_of d) ops
  pub next : IsPostNext (next_of d.config (state_of d))

-- this member
pub record IsAtPost (d : DeskState) (block ops : ℕ) : Type 0 where
  pub driving : IsDriving (state_of d) ops
  pub sweep : Sweep
  pub is : next_of d.config (state_of d) ≡ PostMember sweep block

abbrev pub IsPostedNext : Next → ℕ → (old new : DeskState) → (before after : List Told) → Type 0
IsPostedNext (PostMember sw id) ops old new before after =
    IsPosted (Unit {0}) id true (unpicked_result (own_of old.config (state_of old) id) sw.writes) ops old new before after
IsPostedNext (EndSweep sw) ops old new before after = IsPosted (Unit {0}) 0 false (sweep_result sw, None) ops old new before after
IsPostedNext next ops old new before after = ⊥
