-- A sweep, and what comes next in it.
use Rattle.std.specs.Prelude.{ℕ, ◌-◌, ◌==◌, ◌||◌, Bool, true, false, List, [], ◌∷◌, ◌++◌, slice_get, if◌then◌else◌, Option, Some, None}
use Rattle.block_machine.specs.nv_base.declared.request.JobKind.TheVariants as kind
use Rattle.block_machine.specs.Words.{ReqResult, Fine, NotOk, Canceled, JobKind, Configuration}
use Rattle.block_machine.specs.Blocks.{desc_of}
use Rattle.block_machine.specs.Sweeps.{spoils, may_be_written, may_be_read}
use Rattle.multi_jobs.specs.declared.sweep.Place.{Place}
use Rattle.multi_jobs.specs.declared.sweep.Place.TheVariants.{First, Behind, Over}
use Rattle.multi_jobs.specs.declared.sweep.MemberFacts.{MemberFacts}
use Rattle.multi_jobs.specs.declared.sweep.SweepStep.{SweepStep}
use Rattle.multi_jobs.specs.declared.sweep.SweepStep.TheVariants.{Member, Skip, Defaults, Ended}
use Rattle.multi_jobs.specs.Members.{ids_from}

pub record SweepState : Type 0 where
  pub writes : Bool
  pub place : Place
  pub canceled : Bool
  pub same : Bool
  pub spoiled : Bool

abbrev pub writes_all : JobKind → Bool
writes_all kind.WriteAll = true
writes_all job = false

-- one that begins: a ReadAll with block 1, a WriteAll behind it
abbrev pub sweep_of : JobKind → SweepState
sweep_of job = record { writes = writes_all job; place = if writes_all job then Behind 0 else First; canceled = false; same = false; spoiled = false }

-- a WriteAll ends with block 1
abbrev pub with_last : Bool → List ℕ → List ℕ
with_last writes ids = if writes then ids ++ 1 ∷ [] else ids

-- the members to come, in order
abbrev pub members_at : Configuration → Bool → Place → List ℕ
members_at c writes (Behind passed) = with_last writes (ids_from c writes passed)
members_at c writes First = 1 ∷ with_last writes (ids_from c writes 0)
members_at c writes Over = []

abbrev pub left_of : Configuration → SweepState → List ℕ
left_of c s = members_at c s.writes s.place

-- the next one, if the sweep wasn't canceled
abbrev pub next_member : Configuration → SweepState → Option ℕ
next_member c s = if s.canceled then None else slice_get (left_of c s) 0

-- THE RESULT OF THE LAST MEMBER

-- a ReadAll behind block 1
abbrev pub is_behind_id : Bool → Place → Bool
is_behind_id true place = false
is_behind_id false (Behind passed) = passed == 0
is_behind_id false place = false

-- behind block 1 of a ReadAll what it gave counts
abbrev pub noted : Option ReqResult → Bool → SweepState → SweepState
noted None same_id s = s
noted (Some r) same_id s = record s { same = if is_behind_id s.writes s.place then same_id else s.same; spoiled = s.spoiled || spoils r }

abbrev pub result_of : SweepState → ReqResult
result_of s = if s.canceled then Canceled else (if s.spoiled then NotOk else Fine)

-- WHAT COMES NEXT

abbrev pub is_picked_by : Configuration → SweepState → MemberFacts → ℕ → Bool
is_picked_by c s f id = if s.writes then may_be_written f.valid f.changed f.locked f.protected f.rom_index else may_be_read id s.same (desc_of c id).resistant

abbrev pub step_on : Configuration → SweepState → MemberFacts → Option ℕ → SweepStep
step_on c s f None = Ended (result_of s)
step_on c s f (Some id) = if is_picked_by c s f id then Member id else (if s.writes then Skip id else Defaults id)

abbrev pub step_of : Configuration → SweepState → MemberFacts → SweepStep
step_of c s f = step_on c s f (next_member c s)

-- behind a member: block 1 comes first, or else ends the sweep
abbrev pub place_behind : Place → ℕ → Place
place_behind First id = Behind 0
place_behind place id = if id == 1 then Over else Behind (id - 1)

abbrev pub place_at : Place → Option ℕ → Place
place_at place None = place
place_at place (Some id) = place_behind place id

abbrev pub moved : Configuration → SweepState → SweepState
moved c s = record s { place = place_at s.place (next_member c s) }
