-- The jobs that are kept, and how they agree with the machine's.
use Rattle.std.specs.Prelude.{◌≡◌, ◌≢◌, ◌<◌, ◌≤◌, ℕ, ◌+◌, ◌&&◌, not, Bool, false, if◌then◌else◌, List, [], ◌∷◌, ◌++◌, length, count_by, sum_by, is_none, IsSome, IfSome, option_to_list, Contains, Option, Some}
use Rattle.std.specs.Option.{option_map_or}
use Rattle.block_machine.specs.Words.{Configuration}
use Rattle.block_machine.specs.State.{Job}
use Rattle.block_machine.specs.Blocks.{job_block, rank_of}
use Rattle.block_machine.specs.Steps.{without_job}
use Rattle.block_laws.specs.Consistent.{Each}
use Rattle.job_queues.specs.Jobs.{Jobs as Queues}
use Rattle.job_queues.specs.Laws.{queues_of}
use Rattle.job_pending.specs.declared.unpicked.Unpicked.{Unpicked}
use Rattle.job_pending.specs.Slots.{SlotsState, job_on, slot}
use Rattle.job_pending.specs.Line.{AreInLine, IsFresh, Leads}
use Rattle.job_pending.specs.Room.{HasRoom}

-- what is kept
pub record Pending : Type 0 where
  -- those that wait, by block
  pub slots : SlotsState
  pub hand : Option Job
  -- those that wait, in the order in which they go
  pub queues : Queues
  -- how many of them were never picked
  pub unpicked : Unpicked
  -- the entries that are reserved for them
  pub reserved : ℕ

-- two jobs have neither the block nor the number in common
pub record IsOther (a b : Job) : Type 0 where
  pub block : job_block a ≢ job_block b
  pub number : a.number ≢ b.number

-- this job has neither in common with one of these
abbrev pub StandsApart : Job → List Job → Type 0
StandsApart j jobs = Each (λ x. IsOther x j) jobs

-- and no two of them have
abbrev pub StandApart : List Job → Type 0
StandApart [] = Unit {0}
StandApart (j ∷ js) = StandsApart j js × StandApart js

-- the jobs of one queue that were accepted and not yet picked
abbrev pub unpicked_of : Configuration → List Job → Unpicked
unpicked_of c jobs = record {
  standard = count_by (λ j. not (rank_of c j).immediate && is_none j.taken) jobs;
  immediate = count_by (λ j. (rank_of c j).immediate && is_none j.taken) jobs;
}

abbrev pub reserved_by : List Job → ℕ
reserved_by jobs = sum_by (λ j. j.reserved) jobs

-- the entries that are reserved for all that are kept
abbrev pub reserved_in : Pending → ℕ
reserved_in p = option_map_or (λ h. h.reserved) p.hand 0 + p.reserved

-- a job in hand was picked, on a block of these, and none that waits has its block or its number
pub record IsHeld (blocks : ℕ) (waiting : List Job) (h : Job) : Type 0 where
  pub picked : IsSome h.taken
  pub place : job_block h < blocks
  pub apart : StandsApart h waiting

-- What is kept is these jobs of the machine, which wait, and this one in hand.
pub record Agree (c : Configuration) (p : Pending) (waiting : List Job) (held : Option Job) : Type 0 where
  pub slots : (id : ℕ) → slot p.slots id ≡ job_on waiting id
  pub hand : p.hand ≡ held
  pub queues : p.queues ≡ queues_of c waiting p.queues.immediate_size p.queues.standard_size
  pub unpicked : p.unpicked ≡ unpicked_of c waiting
  pub reserved : p.reserved ≡ reserved_by waiting
  pub apart : StandApart waiting
  pub hand_apart : IfSome held (IsHeld p.slots.places waiting)
  -- no other job is kept, and each is on one of so many blocks
  pub count : length p.slots.jobs ≡ length waiting
  pub below : Each (λ j. job_block j < p.slots.places) waiting
  -- of those that were picked there is one of each priority
  pub line : AreInLine c (option_to_list held ++ waiting)
  pub fresh : Each (IsFresh c) waiting
  -- of those that weren't there are as many as the queues take
  pub standard : p.unpicked.standard ≤ c.standard
  pub immediate : p.unpicked.immediate ≤ c.immediate
  -- and for so many there is room
  pub room : HasRoom c p.slots.places p.slots.room p.queues.immediate_size p.queues.standard_size

-- a new job has not the block of one that is pending, and came later
abbrev pub IsNew : Job → List Job → Option Job → Type 0
IsNew j waiting held = (x : Job) → Contains (option_to_list held ++ waiting) x → IsOther x j × (x.number < j.number)

-- how many jobs a queue takes that weren't picked
abbrev pub most_of : Configuration → Bool → ℕ
most_of c immediate = if immediate then c.immediate else c.standard

-- the job that goes next was taken out of those that wait
pub record IsTakenOut (c : Configuration) (old new : Pending) (waiting : List Job) (held : Option Job) (j : Job) (taken : Option Job) : Type 0 where
  pub job : taken ≡ Some j
  pub agrees : Agree c new (without_job j.number waiting) held
  pub place : job_block j < old.slots.places
  pub apart : StandsApart j (without_job j.number waiting)
  pub other : IfSome held (λ h. IsOther h j)
  -- where it is a standard one, it goes before each other one of its priority, and none of these was picked
  pub leads : (rank_of c j).immediate ≡ false → Each (λ x. (rank_of c x).immediate ≡ false → Leads c j x) (without_job j.number waiting)
