-- Where the content of a job that is pending stands: each block has one place, of its length, which a job takes with its content.
use Rattle.std.specs.Prelude.{◌≡◌, ◌≤◌, ℕ, ◌+◌, List, ◌++◌, length, get_or, option_to_list, slice_set, IfSome, IsSomeAnd, Option, Some, None}
use Rattle.block_machine.specs.Words.{Configuration}
use Rattle.block_machine.specs.State.{Job}
use Rattle.block_machine.specs.Blocks.{desc_of, job_block}
use Rattle.block_laws.specs.Consistent.{AreApart, Each}
use Rattle.job_pending.specs.Pending.{Agree, Pending}

-- by id from 0: the bytes that stand ready for a block's next content, where no job has them
abbrev pub Ready : Type 0
Ready = List (Option (List ℕ))

-- as many bytes stand ready for a block as it has
abbrev pub IsReady : Configuration → Ready → ℕ → Type 0
IsReady c places id = IsSomeAnd (get_or places id None) (λ bytes. length bytes ≡ (desc_of c id).length)

-- so it is of each block
abbrev pub AllReady : Configuration → Ready → Type 0
AllReady c places = (id : ℕ) → id ≤ length c.blocks → IsReady c places id

-- none of these jobs has a content of this block
abbrev pub NoneHolds : List Job → ℕ → Type 0
NoneHolds jobs id = Each (λ j. job_block j ≡ id → j.content ≡ None) jobs

-- so it is of each block none of whose jobs has a content
abbrev pub AreReady : Configuration → List Job → Ready → Type 0
AreReady c jobs places = (id : ℕ) → id ≤ length c.blocks → NoneHolds jobs id → IsReady c places id

-- the content of a job has its block's length
abbrev pub IsWhole : Configuration → Job → Type 0
IsWhole c j = IfSome j.content (λ x. length x.0 ≡ (desc_of c (job_block j)).length)

-- these jobs are kept so, and the places of their contents beside them
pub record AreHeld (c : Configuration) (p : Pending) (waiting : List Job) (held : Option Job) (places : Ready) : Type 0 where
  pub agree : Agree c p waiting held
  pub apart : AreApart waiting
  pub slots : p.slots.places ≡ length c.blocks + 1
  pub count : length places ≡ length c.blocks + 1
  pub whole : Each (IsWhole c) (option_to_list held ++ waiting)
  pub ready : AreReady c (option_to_list held ++ waiting) places

-- the place of a block's content, once that is taken from there, if there is one
abbrev pub taken_from : Ready → ℕ → Option (List ℕ) → Ready
taken_from places block None = places
taken_from places block (Some content) = slice_set places block None

-- and once it is put back
abbrev pub put_back : Ready → ℕ → Option (List ℕ) → Ready
put_back places block None = places
put_back places block (Some content) = slice_set places block (Some content)
