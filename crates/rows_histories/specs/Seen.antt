-- What is kept of one mark of an instance, against the machine's state.
use Rattle.std.specs.Prelude.{◌≡◌, ◌⊎◌, ◌↔◌, ◌==◌, ℕ, false, IsTrue, IsSome, if◌then◌else◌, Option, Some, None}
use Rattle.block_machine.specs.Words.{Instance, Mark, Content, Invalid, Erased, JobKind, WriteJob, InvalidateJob, EraseJob, Taken, TookContent, Request, SetIndex, Accepted, Entry, Ask, Pick, Wrote, Found, Configuration}
use Rattle.block_machine.specs.State.{State}
use Rattle.block_machine.specs.Blocks.{desc_of, block_at, indices_by, is_in, same_instance, instance_at}
use Rattle.block_machine.specs.StartUp.{listed_mark}
use Rattle.block_machine.specs.History.{MayStandIn}
use Rattle.rows_histories.specs.declared.seen.Seen.{Seen}

-- the mark that a Pick takes for the instances that its job works on, if it takes one
abbrev pub mark_taken : JobKind → Taken → Option Mark
mark_taken WriteJob (TookContent bytes store) = Some (Content bytes)
mark_taken InvalidateJob t = Some Invalid
mark_taken EraseJob t = Some Erased
mark_taken kind t = None

-- a Pick of this block takes this mark for an instance, while its block has this data index
pub record IsTaken (c : Configuration) (i : Instance) (index block : ℕ) (kind : JobKind) (t : Taken) (mark : Mark) : Type 0 where
  pub same_block : i.block ≡ block
  pub one_of_its : IsTrue (is_in (indices_by (desc_of c i.block).kind (desc_of c i.block).nv index) i.index)
  pub takes : mark_taken kind t ≡ Some mark

-- the mark may stand behind an entry, by what was kept before it
abbrev pub StandsBy : Configuration → Instance → Mark → Seen → Entry → Type 0
StandsBy c i mark seen (Pick block kind t ops) = IsTrue seen.stands ⊎ IsTaken c i seen.index block kind t mark
StandsBy c i mark seen (Wrote w written ops) = (IsTrue (same_instance w i) × (mark ≡ written)) ⊎ ((same_instance w i ≡ false) × IsTrue seen.stands)
StandsBy c i mark seen (Found marks ops) = mark ≡ listed_mark marks i
StandsBy c i mark seen e = IsTrue seen.stands

-- the data index of a block behind an accepted request
abbrev pub index_to : ℕ → ℕ → Request → ℕ
index_to id index (SetIndex block to) = if block == id then to else index
index_to id index r = index

-- and behind an entry
abbrev pub index_by : ℕ → ℕ → Entry → ℕ
index_by id index (Ask caller r Accepted) = index_to id index r
index_by id index (Found marks ops) = 0
index_by id index e = index

-- what is kept behind an entry
pub record IsSeenBy (c : Configuration) (i : Instance) (mark : Mark) (old : Seen) (e : Entry) (new : Seen) : Type 0 where
  pub stands : IsTrue new.stands ↔ StandsBy c i mark old e
  pub index : new.index ≡ index_by i.block old.index e

-- it is what the machine's state says
pub record IsSeen (i : Instance) (mark : Mark) (seen : Seen) (s : State) : Type 0 where
  pub stands : IsTrue seen.stands ↔ MayStandIn (instance_at s i) mark
  pub index : seen.index ≡ (block_at s i.block).index
  -- the instance is there once a start-up stands
  pub there : IsTrue s.started → IsSome (instance_at s i)
